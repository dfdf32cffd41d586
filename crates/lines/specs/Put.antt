-- Inner machinery, which nobody has to believe: what a function that writes does. It answers the place after its bytes, and lays them where
-- there is room for all of them.
use Rattle.std.specs.Prelude.{ℕ, ◌+◌, ◌-◌, ◌^◌, ◌≤◌, min, ◌≡◌, List, length}
use Rattle.std.proofs.lemmas.List.Edits.{sets}
use Rattle.lines.specs.declared.page.Page.{Page}

-- the greatest number of a word
abbrev pub greatest : ℕ
greatest = 2 ^ 64 - 1

-- the place n bytes further, or the greatest
abbrev pub reach : ℕ → ℕ → ℕ
reach at n = min (at + n) greatest

pub record Put (out : List ℕ) (at : ℕ) (bytes : List ℕ) (place : ℕ) (exit : List ℕ) : Type 0 where
  pub reached : place ≡ reach at (length bytes)
  pub room : length exit ≡ length out
  pub laid : at + length bytes ≤ length out → length out ≤ greatest → exit ≡ sets out at bytes

-- the page as it is after these bytes: of the same text, and in the same buffer. The place of a page is a number of the machine.
pub record Puts (p q : Page) (bytes : List ℕ) : Type 0 where
  pub of : q.text.now ≡ p.text.now
  pub within : q.out.ghost_name ≡ p.out.ghost_name
  pub put : p.at ≤ greatest → Put p.out.now p.at bytes q.at q.out.now
