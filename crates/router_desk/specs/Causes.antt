-- The names of the causes of a drop.
use Rattle.model_router.specs.declared.drop_name.DropName.{DropName}
use Rattle.model_router.specs.declared.drop_name.DropName.TheVariants as name
use Rattle.adjacency.specs.Changes.{drop_name}
use Rattle.router_desk.specs.declared.cause.DropCause.{DropCause}
use Rattle.router_desk.specs.declared.cause.DropCause.TheVariants as cause

-- a cause's name: the cause without its details (own)
abbrev pub name_of : DropCause → DropName
name_of (cause.Frame fault) = name.Frame
name_of cause.Version = name.Version
name_of (cause.Pdu fault) = name.Pdu
name_of cause.TooLong = name.TooLong
name_of cause.WrongKind = name.WrongKind
name_of cause.WrongLevel = name.WrongLevel
name_of (cause.Auth fault) = name.Auth
name_of (cause.Value place) = name.Value
name_of cause.ZeroNumber = name.ZeroNumber
name_of cause.BadChecksum = name.BadChecksum
name_of (cause.Hello refused) = drop_name refused
name_of cause.NoAdjacency = name.NoAdjacency
name_of cause.NotDesignated = name.NotDesignated
name_of cause.StoreFull = name.StoreFull
