-- WHAT CHECKING ANSWERS for the reading of a text and a record file. Here rs are the records of the reading, and fs those of the file.
use Rattle.std.specs.Prelude.{ℕ, zero, suc, Bool, false, cond, not, ◌&&◌, ◌||◌, List, [], ◌∷◌, eqb, ltb, length, get_or, take}
use Rattle.refusal.specs.declared.Refusal.{Refusal}
use Rattle.refusal.specs.Table.{refused, done, not_whole, wrong_record, lacking}
use Rattle.record.specs.declared.Record.{Record}
use Rattle.record.specs.Made.{made}
use Rattle.file.specs.File.{whole, held}
use Rattle.grammar.specs.Reading.{Reading, records, refusal_of}

-- two records are equal: they agree in every field, the spare bytes included
unfoldable pub same : Record → Record → Bool
same x y =
    eqb x.kind y.kind && eqb x.code y.code && eqb x.spare y.spare
    && eqb x.at y.at && eqb x.owner y.owner && eqb x.name y.name && eqb x.len y.len
    && eqb x.x y.x && eqb x.y y.y

-- x is equal to one of the records
unfoldable pub among : Record → List Record → Bool
among x [] = false
among x (y ∷ l) = same x y || among x l

-- the least number below n of which p holds, or n where there is none
unfoldable pub first : ℕ → (ℕ → Bool) → ℕ
first zero p = 0
first (suc n) p = cond (p 0) 0 (suc (first n (λ i. p (suc i))))

-- what stands past the end of a list
abbrev pub blank : Record
blank = made 0 0 0 0 0 0 0 0

-- record i of the file is none of the reading's
abbrev pub foreign : List Record → List Record → ℕ → Bool
foreign rs fs i = not (among (get_or fs i blank) rs)

-- record i of the file is equal to an earlier one
abbrev pub repeated : List Record → ℕ → Bool
repeated fs i = among (get_or fs i blank) (take i fs)

unfoldable pub wrong : List Record → List Record → ℕ → Bool
wrong rs fs i = foreign rs fs i || repeated fs i

-- record k of the reading is none of the file's
unfoldable pub lacks : List Record → List Record → ℕ → Bool
lacks rs fs k = not (among (get_or rs k blank) fs)

-- 14 with the index of the first record that is foreign or equal to an earlier one; else 15 with the `at` of the first record that is
-- lacking; else 0
unfoldable pub verdict : List Record → List Record → Refusal
verdict rs fs =
    let w = first (length fs) (wrong rs fs) in
    let k = first (length rs) (lacks rs fs) in
    cond (ltb w (length fs)) (refused wrong_record w 0)
    (cond (ltb k (length rs)) (refused lacking (get_or rs k blank).at 0)
    (refused done 0 0))

-- the text's own refusal; else 13 with the file's length, where that is no multiple of 36; else the verdict
abbrev pub checked : Reading → List ℕ → Refusal
checked (refusal_of r) file = r
checked (records rs) file = cond (whole file) (verdict rs (held file)) (refused not_whole (length file) 0)
