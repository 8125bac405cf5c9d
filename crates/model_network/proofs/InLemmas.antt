-- Datagrams in a list that grows.
use Rattle.std.proofs.Common.{◌⊎◌, inl, inr, List, [], ◌∷◌, ◌++◌}
use Rattle.model_network.specs.Networks.{Datagram}
use Rattle.model_network.specs.Ports.{In}

pub in-old : (d : Datagram) (xs ys : List Datagram) → In d xs → In d (xs ++ ys)
in-old d [] ys i = absurd i
in-old d (x ∷ xs) ys (inl e) = inl e
in-old d (x ∷ xs) ys (inr i) = inr (in-old d xs ys i)

pub in-split : (d : Datagram) (xs ys : List Datagram) → In d (xs ++ ys) → In d xs ⊎ In d ys
in-split d [] ys i = inr i
in-split d (x ∷ xs) ys (inl e) = inl (inl e)
in-split d (x ∷ xs) ys (inr i) = sooner (in-split d xs ys i)
  where
    sooner : In d xs ⊎ In d ys → In d (x ∷ xs) ⊎ In d ys
    sooner (inl j) = inl (inr j)
    sooner (inr j) = inr j
