-- The records that are read of a written text are those written, positions aside: their places rise, so the index of each place is its own.
use Prim.Native.Nat.{ℕ}
use mathlib.Core.Path.{◌≡◌, refl, sym, ap, ◌∙◌}
use mathlib.Core.List.{List, [], ◌∷◌, ◌++◌, map, map-map}
use native.Mathlib.Omega.{arith}
use lib.ListN.{length, length-append, get_or-append}
use lib.Seq.{append_snoc, get_or-append_seam}
use Rattle.std.specs.Prelude.{Ok}
use Rattle.lexer.specs.Lex.{from}
use Rattle.lexer.specs.Screen.{screened}
use Rattle.grammar.specs.Engine.{Maybe, none, some, Rec}
use Rattle.grammar.specs.Turns.{read}
use Rattle.grammar.specs.Reading.{ahead, filed, read_ahead}
use Rattle.grammar.specs.Standing.{Rising, places_of}
use Rattle.grammar.proofs.Places.{places_rise}
use Rattle.render.specs.Plain.{Plain, bare, renamed_owner, renamed, index_in, aside}
use Rattle.render.proofs.Stands.{plain_rec}
use Rattle.render.proofs.Bared.{told_turns, bared}
use Rattle.render.proofs.Indexes.{index_of}
use Rattle.render.proofs.Alike.{Owner, Alike}

module _ (ps : List ℕ) (h : Rising ps) where
  same_owner : (seen l : List ℕ) → ps ≡ seen ++ l → (o p : Maybe ℕ) → Owner seen o p → renamed_owner (index_in ps) p ≡ o
  same_owner seen l e none none w = refl
  same_owner seen l e none (some p) w = absurd w
  same_owner seen l e (some i) none w = absurd w
  same_owner seen l e (some i) (some p) (b, g) =
      let n = length-append seen l in
      let d = get_or-append seen l 0 i b in
      let f = index_of ps h i (omega (arith, ap length e)) in
      let k : index_in ps p ≡ i = cc in
      ap some k

  all_aside : (seen : List ℕ) (rs : List Plain) (qs : List (Rec ℕ)) → ps ≡ seen ++ places_of (map filed qs) → Alike seen rs qs
      → map (renamed (index_in ps)) (map plain_rec qs) ≡ rs
  all_aside seen [] [] e a = refl
  all_aside seen [] (q ∷ qs) e a = absurd a
  all_aside seen (r ∷ rs) [] e a = absurd a
  all_aside seen (r ∷ rs) (q ∷ qs) e (l, b, o, a) =
      let ls = places_of (map filed qs) in
      let n = length-append seen (q.at ∷ ls) in
      let d = get_or-append_seam seen q.at ls 0 in
      let f = index_of ps h (length seen) (omega (arith, ap length e)) in
      let k : index_in ps q.at ≡ r.at = cc in
      rw (k, same_owner seen (q.at ∷ ls) e r.owner q.owner o, l.kind, l.code, l.name, l.x, l.y)
      (ap (λ m. r ∷ m) (all_aside (seen ++ (q.at ∷ [])) rs qs (e ∙ sym (append_snoc seen q.at ls)) a))

-- RECORDS ALIKE ARE THE SAME, POSITIONS ASIDE
pub aside_alike : (s : List ℕ) (ps : List Plain) (qs : List (Rec ℕ)) → screened s ≡ Ok tt → read_ahead (ahead s (from s 0 1)) ≡ read qs
    → Alike [] ps qs → aside s (map filed qs) ≡ ps
unfolding aside
aside_alike s ps qs c t a =
    let places = places_of (map filed qs) in
    let f = renamed (index_in places) in
    sym (map-map f (bare s) (map filed qs)) ∙ ap (map f) (bared s qs c t)
    ∙ all_aside places (places_rise s (map filed qs) (told_turns s qs c t)) [] ps qs refl a
