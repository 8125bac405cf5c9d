-- The lemmas, a module for each topic.
mod ShapeLemmas
mod IdleLemmas
mod WantedLemmas
mod AckLemmas
mod TakenLemmas
mod OpenLemmas
mod SendingLemmas
mod PullLemmas
mod GreetingLemmas
mod SentLemmas
mod DueLemmas
mod StepLemmas
mod PrefixLemmas
mod StartLemmas
mod ChangeLemmas
mod RestLemmas
pub mod NameLemmas
pub mod ReachedLemmas
mod SecondLemmas
mod QuietLemmas
pub mod CalmLemmas
mod LastLemmas
pub mod RouteLemmas
mod LeakedUpLemmas
mod MovedLemmas
mod CountLemmas
mod KeepingLemmas
mod OutbidLemmas
mod AsideLemmas
mod NodesLemmas
mod RefreshLemmas
mod FaceLemmas
mod KeepLemmas
mod SettledLemmas
mod HelloLemmas
mod PlanLemmas
mod ShiftLemmas
mod PassedLemmas
mod LaterLemmas
mod SightLemmas
mod RenewalLemmas
