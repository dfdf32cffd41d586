-- The images by which the parser's contracts state an answer forget nothing: the answer is read back from its image.
use Prim.Native.Nat.{ℕ}
use mathlib.Core.Path.{◌≡◌, refl, sym, ap, ◌∙◌}
use mathlib.Core.List.{List, []}
use Rattle.std.specs.Prelude.{Result, Ok, Err}
use Rattle.refusal.specs.declared.Refusal.{Refusal}
use Rattle.refusal.specs.Table.{refused as refusal}
use Rattle.lexer.specs.declared.Token.{Token}
use Rattle.lexer.proofs.Kinded.{kind_of, kind_back}
use Rattle.grammar.specs.Tokens.{Ahead, Answer, ok, refused}
use Rattle.grammar.specs.Engine.{Rec}
use Rattle.grammar.specs.Turns as T
use Rattle.grammar.specs.Reading.{Mark}
use Rattle.parser.specs.declared.engine.Step.{Step}
use Rattle.parser.specs.Code.{ahead_of, as_taken, as_number, as_word, as_peeked}
use Rattle.parser.specs.Drafts.{Entry}
use Rattle.parser.specs.Stepped.{as_step}

-- what has a way back is one to one
one : {A B : Type 0} (f : A → B) (g : B → A) → ((x : A) → g (f x) ≡ x) → (x y : A) → f x ≡ f y → x ≡ y
one f g back x y e = sym (back x) ∙ (ap g e ∙ back y)

-- the token held
abbrev held_by : Ahead ℕ Mark → Token
held_by a = record { start = a.held.at; stop = a.held.mark.place; line = a.held.mark.line; kind = kind_of a.held.kind }

abbrev why : ℕ → Mark → Refusal
why n m = refusal n m.place m.line

module _ {B : Type 0} where
  abbrev to_taken : Answer ℕ Mark B → Result Token Refusal
  to_taken (ok b a) = Ok (held_by a)
  to_taken (refused n m) = Err (why n m)

abbrev to_number : Answer ℕ Mark ℕ → Result (ℕ × Token) Refusal
to_number (ok v a) = Ok (v, held_by a)
to_number (refused n m) = Err (why n m)

-- but for what the record does to the open blocks, which a number says in more ways than one
abbrev to_step : ℕ → T.Step ℕ Mark Entry → Result Step Refusal
to_step n (T.gives m e a) = Ok (Step.Gives (held_by a) e.rec n)
to_step n (T.ends a) = Ok (Step.Ends (held_by a))
to_step n (T.goes b a) = Ok (Step.Goes (held_by a) n)
to_step n T.backs = Ok Step.Back
to_step n (T.halts k m) = Err (why k m)

-- the step with that number in the place of its own
abbrev told : ℕ → Result Step Refusal → Result Step Refusal
told n (Ok (Step.Gives t r m)) = Ok (Step.Gives t r n)
told n (Ok (Step.Ends t)) = Ok (Step.Ends t)
told n (Ok (Step.Goes t b)) = Ok (Step.Goes t n)
told n (Ok Step.Back) = Ok Step.Back
told n (Err r) = Err r

module _ (s : List ℕ) where
  held_back : (t : Token) → held_by (ahead_of s t) ≡ t
  held_back t = rw (kind_back t.kind)

  pub as_taken_lem : (h : Token) (x y : Result Token Refusal) → as_taken s h x ≡ as_taken s h y → x ≡ y
  as_taken_lem h = one (as_taken s h) to_taken (elim [ Ok t ↦ ap Ok (held_back t) | Err r ↦ refl ])

  pub as_number_lem : (x y : Result (ℕ × Token) Refusal) → as_number s x ≡ as_number s y → x ≡ y
  as_number_lem = one (as_number s) to_number (elim [ Ok p ↦ ap (λ t. Ok (p.0, t)) (held_back p.1) | Err r ↦ refl ])

  pub as_word_lem : (x y : Result (ℕ × Token) Refusal) → as_word s x ≡ as_word s y → x ≡ y
  as_word_lem = as_number_lem

  pub as_step_lem : (n : ℕ) (x y : Result Step Refusal) → as_step s x ≡ as_step s y → told n x ≡ told n y
  as_step_lem n x y e = sym (back x) ∙ (ap (to_step n) e ∙ back y)
    where
      back : (z : Result Step Refusal) → to_step n (as_step s z) ≡ told n z
      back (Ok (Step.Gives t r m)) = ap (λ u. Ok (Step.Gives u r n)) (held_back t)
      back (Ok (Step.Ends t)) = ap (λ u. Ok (Step.Ends u)) (held_back t)
      back (Ok (Step.Goes t b)) = ap (λ u. Ok (Step.Goes u n)) (held_back t)
      back (Ok Step.Back) = refl
      back (Err r) = refl

-- what was looked at stands in what follows from it, for a continuation that keeps it
abbrev keeps : ℕ → T.Step ℕ Mark (Rec ℕ)
keeps w = T.ends (record { held = record { kind = w; bytes = []; at = 0; mark = record { place = 0; line = 0 } }; rest = [] })

abbrev to_peeked : T.Step ℕ Mark (Rec ℕ) → Result ℕ Refusal
to_peeked (T.gives m r a) = Ok 0
to_peeked (T.ends a) = Ok a.held.kind
to_peeked (T.goes b a) = Ok 0
to_peeked T.backs = Ok 0
to_peeked (T.halts n m) = Err (why n m)

pub as_peeked_lem : (x y : Result ℕ Refusal) → ((k : ℕ → T.Step ℕ Mark (Rec ℕ)) → as_peeked x k ≡ as_peeked y k) → x ≡ y
as_peeked_lem x y e = one (λ p. as_peeked p keeps) to_peeked (elim [ Ok w ↦ refl | Err r ↦ refl ]) x y (e keeps)
