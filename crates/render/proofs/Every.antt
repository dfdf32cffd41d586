-- What holds of everything in a list holds of each member, and of what is left of the list: each by recursion.
use mathlib.Core.List.{List, Memᴰ}
use Rattle.grammar.specs.Standing.{Every}
use Rattle.grammar.proofs.Kept.{Suf, here, there}

module _ {B : Type 0} (P : B → Type 0) where
  pub every_member : {b : B} {l : List B} → Memᴰ b l → Every P l → P b
  every_member (Memᴰ.head {x = z} {xs = l} e) h = rw e h.0
  every_member (Memᴰ.tail {x = z} {xs = l} m) h = every_member m h.1

  pub every_suf : {k l : List B} → Suf k l → Every P l → Every P k
  every_suf here h = h
  every_suf (there s) h = every_suf s h.1
