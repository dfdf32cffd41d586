-- Every record of a reading fits its 36 bytes: kind, code and numbers by what the rules list, places since the text is within its limit.
use Prim.Native.Nat.{ℕ, ◌^◌, ◌≤◌, ◌<◌}
use mathlib.Core.Path.{◌≡◌, refl}
use mathlib.Core.Bool.{true}
use mathlib.Core.Logic.{⊎_elim}
use mathlib.Core.List.Memᴰ
use mathlib.Core.List.{List, [], ◌∷◌, map, Memᴰ}
use native.Mathlib.Omega.{arith}
use lib.ListN.{length}
use Rattle.refusal.specs.declared.Refusal.{Refusal}
use Rattle.record.specs.declared.Record.{Record}
use Rattle.record.specs.Made.{library}
use Rattle.record.specs.Range.{InRange}
use Rattle.std.specs.Prelude.{Result, Ok, Err, ⊤}
use Rattle.lexer.specs.Lex.{from}
use Rattle.lexer.specs.Screen.{limit, screened}
use Rattle.lexer.proofs.Cleared.{clear_short}
use Rattle.grammar.specs.Standing.{Every, places_of, OwnedFrom, NameWithin}
use Rattle.grammar.specs.Listed.{listed, Stored}
use Rattle.grammar.specs.Table.{body}
use Rattle.grammar.specs.Engine.{Rec}
use Rattle.grammar.specs.Turns.{Outcome, read, stopped, turns}
use Rattle.grammar.specs.Reading.{Mark, ahead, filed, start, read_ahead, Reading, records, refusal_of, told, reading}
use Rattle.grammar.proofs.Turned.{Reads}
use Rattle.grammar.proofs.Places.{of_reading, places_within, owners_known, names_within}
use Rattle.grammar.proofs.Codes.{listed_fits}
use Rattle.grammar.proofs.Listed.{all_listed, all_numbers}

-- a text that has a reading is within the limit
pub short : (s : List ℕ) (rs : List Record) → reading s ≡ records rs → length s ≤ limit
unfolding reading
short s rs e = go (screened s) refl e
  where
    go : (c : Result ⊤ Refusal) → screened s ≡ c → elim c as (λ d. Reading) [
      | Err r ↦ refusal_of r
      | Ok clear ↦ told (read_ahead (ahead s (from s 0 1)))
    ] ≡ records rs → length s ≤ limit
    go (Err r) h q = absurd (let z : ◌≡◌ {A = ℕ} 0 1 = cc in omega arith)
    go (Ok clear) h q = clear_short s h

-- the two spare bytes are nought
spare_filed : (rs : List (Rec ℕ)) → Unit {0} → Every (λ r. r.spare ≡ 0) (map filed rs)
spare_filed [] u = tt
spare_filed (r ∷ rs) u = (refl, spare_filed rs u)

read_any : (o : Outcome Mark (Rec ℕ)) → Reads (λ rs. Unit {0}) o
read_any (read rs) = tt
read_any (stopped n m) = tt

pub spare_nought : (s : List ℕ) (rs : List Record) → reading s ≡ records rs → Every (λ r. r.spare ≡ 0) rs
spare_nought s = of_reading (λ rs. Unit {0}) (Every (λ r. r.spare ≡ 0)) spare_filed s (λ n. read_any (turns body n start (ahead s (from s 0 1))))

below : (p : ℕ) (known : List ℕ) → Every (λ q. q < 2 ^ 32) known → Memᴰ p known → p < 2 ^ 32
below p [] h m = absurd (Memᴰ.not-nil m)
below p (q ∷ known) h m = ⊎_elim (λ e. rw e h.0) (λ g. below p known h.1 g) (Memᴰ.cases_cons m)

module _ (s : List ℕ) (l : length s ≤ limit) where
  all : (known : List ℕ) (rs : List Record) → Every (λ q. q < 2 ^ 32) known
      → Every (λ p. p < length s) (places_of rs) → OwnedFrom known rs → Every (NameWithin s) rs
      → Every (λ r. listed r.kind r.code ≡ true) rs
      → Every (λ r. Stored r.x × Stored r.y × (r.x < 2 ^ 64) × (r.y < 2 ^ 64)) rs
      → Every (λ r. r.spare ≡ 0) rs → Every InRange rs
  all known [] k p o n c x z = tt
  all known (r ∷ rs) k p o n c x z =
      let f = listed_fits r.kind r.code c.0 in
      let here : r.at < 2 ^ 32 = omega (arith, p.0) in (
        record {
          kind_fits = f.1;
          code_fits = f.2;
          spare_fits = omega (arith, z.0);
          at_fits = here;
          owner_fits = below r.owner known k o.0;
          name_fits = omega (arith, n.0);
          len_fits = omega (arith, n.0);
          x_fits = x.0.2;
          y_fits = x.0.3;
        },
        all (r.at ∷ known) rs (here, k) p.1 o.1 n.1 c.1 x.1 z.1,
      )

pub in_range : (s : List ℕ) (rs : List Record) → reading s ≡ records rs → Every InRange rs
in_range s rs e =
    all s (short s rs e) (library ∷ []) rs (omega arith, tt)
    (places_within s rs e) (owners_known s rs e) (names_within s rs e) (all_listed s rs e) (all_numbers s rs e) (spare_nought s rs e)
