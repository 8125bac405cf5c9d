mod ReplayLemmas
mod AlikeLemmas
mod FindLemmas
mod ScriptLemmas
