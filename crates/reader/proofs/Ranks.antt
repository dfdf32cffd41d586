-- A step opens only blocks that stand deeper, by a test of each row of the table and a walk of the steps. So no block gets deeper than it can.
use Prim.Native.Nat.{ℕ, ◌≤◌, ◌<◌}
use mathlib.Core.Path.{◌≡◌, refl, ap}
use mathlib.Core.Bool.{Bool, true, false, cond, ◌&&◌}
use mathlib.Core.List.{List, [], ◌∷◌}
use native.Mathlib.Omega.{arith}
use borrow.Author.Tests.{ltb-true, leb-true}
use lib.Dec.{leb, ltb, eqb}
use lib.ListN.{length}
use Rattle.lexer.specs.Kinds as Kind
use Rattle.word.specs.Words.{word_of, word, is_key}
use Rattle.word.proofs.Words.{both}
use Rattle.grammar.specs.Tokens.{Tok, Ahead, Answer, ok, refused, then, next_token, matches}
use Rattle.grammar.specs.Grammar.{Block, Library, semi, whole, Move, stay, enter, named, version, Act, statement, close, refuse, back, up_to54, Row, Body, keyed, worded, options, parts, counted}
use Rattle.grammar.specs.Table.{body}
use Rattle.grammar.specs.Engine.{Rec, Draft, Frame, blank, get_name, items, empty}
use Rattle.grammar.specs.Turns.{Step, gives, ends, goes, backs, halts, given, ended, gone, act_for, perform, peek_key, judged, step, shift, become}
use Rattle.grammar.proofs.Blocks.{each_block}
use Rattle.reader.specs.Open.{Pushes, Inside, rank, Ranked}

-- a record in a block of rank n opens only what stands deeper
abbrev pub Deeper : ℕ → Move → Type 0
Deeper n stay = Unit {0}
Deeper n (enter b ks) = n < rank b
Deeper n (named b ks) = n < rank b
Deeper n version = Unit {0}

-- the same of a step, which goes on only in a block as deep, and not in the library
abbrev pub Rises : {A M R : Type 0} → ℕ → Step A M R → Type 0
Rises n (gives m r a) = Deeper n m
Rises n (ends a) = Unit {0}
Rises n (goes b a) = (0 < n) × (n ≤ rank b)
Rises n backs = Unit {0}
Rises n (halts k p) = Unit {0}

-- THE TEST

module _ (n : ℕ) where
  unfoldable deeper : Move → Bool
  deeper stay = true
  deeper (enter b ks) = ltb n (rank b)
  deeper (named b ks) = ltb n (rank b)
  deeper version = true

  unfoldable rises_act : Act → Bool
  rises_act (statement k is m) = deeper m
  rises_act (close is) = true
  rises_act (refuse k) = true
  rises_act back = true
  rises_act (up_to54 act) = rises_act act

  unfoldable rises_rows : List Row → Bool
  rises_rows [] = true
  rises_rows (w ∷ ws) = rises_act w.act && rises_rows ws

  unfoldable rises_body : Body → Bool
  rises_body (keyed k rows) = rises_rows rows
  rises_body (worded rows) = rises_rows rows
  rises_body (options rows b) = (ltb 0 n && leb n (rank b)) && rises_rows rows
  rises_body (parts k is) = true
  rises_body (counted k is) = true

  deeper_is : (m : Move) → deeper m ≡ true → Deeper n m
  unfolding deeper
  deeper_is stay h = tt
  deeper_is (enter b ks) h = ltb-true n (rank b) h
  deeper_is (named b ks) h = ltb-true n (rank b) h
  deeper_is version h = tt

  act_rises : (k w : ℕ) (rows : List Row) → rises_rows rows ≡ true → rises_act (act_for k w rows) ≡ true
  unfolding act_for rises_rows rises_act
  act_rises k w [] s = refl
  act_rises k w (r ∷ rs) s = let h = both (rises_act r.act) (rises_rows rs) s in go (eqb (word r.begin) w) h.0 (act_rises k w rs h.1)
    where
      go : (c : Bool) → rises_act r.act ≡ true → rises_act (act_for k w rs) ≡ true → rises_act (cond c r.act (act_for k w rs)) ≡ true
      go true p q = p
      go false p q = q

  -- A STEP

  module _ {A M : Type 0} where
    rises_cond : (c : Bool) (t u : Step A M (Rec A)) → Rises n t → Rises n u → Rises n (cond c t u)
    rises_cond true t u p q = p
    rises_cond false t u p q = q

    given_rises : (m : Move) (t : Answer A M (Draft A)) → Deeper n m → Rises n (given m t)
    given_rises m (ok d a) h = h
    given_rises m (refused k p) h = tt

    ended_rises : {B : Type 0} (t : Answer A M B) → Rises {R = Rec A} n (ended t)
    ended_rises (ok d a) = tt
    ended_rises (refused k p) = tt

    gone_rises : {B : Type 0} (b : Block) (t : Answer A M B) → (0 < n) × (n ≤ rank b) → Rises {R = Rec A} n (gone b t)
    gone_rises b (ok d a) h = h
    gone_rises b (refused k p) h = tt

    module _ (v : ℕ) (f : Frame A) (a : Ahead A M) where
      perform_rises : (taken : Answer A M (Tok A M)) (p : M) (act : Act) → rises_act act ≡ true → Rises n (perform v f a taken p act)
      unfolding perform rises_act
      perform_rises taken p (statement k is m) s = given_rises m (then taken (λ t b. items 0 f is (blank k f a) b)) (deeper_is m s)
      perform_rises taken p (close is) s = ended_rises (then taken (λ t b. items 0 f is (blank 0 f a) b))
      perform_rises taken p (refuse k) s = tt
      perform_rises taken p back s = tt
      perform_rises taken p (up_to54 act) s = rises_cond (leb v 5400000) (perform v f a taken p act) (halts 5 p) (perform_rises taken p act s) tt

      judged_rises : (rows : List Row) → rises_rows rows ≡ true → (taken : Answer A M (Tok A M)) → Rises n (judged v f a rows taken)
      judged_rises rows s (ok t b) = perform_rises (ok t b) b.held.mark (act_for 5 (word_of t.bytes) rows) (act_rises 5 (word_of t.bytes) rows s)
      judged_rises rows s (refused k p) = tt

      body_rises : (b : Body) → rises_body b ≡ true → Rises n (step v f a b)
      unfolding step peek_key rises_body
      body_rises (keyed k rows) s = let w = word_of a.held.bytes in
          rises_cond (matches Kind.name a) _ (halts 4 a.held.mark)
          (rises_cond (is_key w) (perform v f a (next_token a) a.held.mark (act_for k w rows)) (halts 5 a.held.mark)
          (perform_rises (next_token a) a.held.mark (act_for k w rows) (act_rises k w rows s)) tt) tt
      body_rises (worded rows) s = judged_rises rows s (get_name a)
      body_rises (options rows b) s = let z = both (ltb 0 n && leb n (rank b)) (rises_rows rows) s in let y = both (ltb 0 n) (leb n (rank b)) z.0 in
          rises_cond (matches Kind.semicolon a) (gone b (next_token a)) (judged v f a rows (get_name a))
          (gone_rises b (next_token a) (ltb-true 0 n y.0, leb-true n (rank b) y.1)) (judged_rises rows z.1 (get_name a))
      body_rises (parts k is) s =
          rises_cond (matches Kind.semicolon a) (ended (items 0 f (whole 6 ∷ semi ∷ []) (blank 0 f a) a)) (given stay (items 0 f is (blank k f a) a))
          (ended_rises (items 0 f (whole 6 ∷ semi ∷ []) (blank 0 f a) a)) (given_rises stay (items 0 f is (blank k f a) a) tt)
      body_rises (counted k is) s =
          rises_cond (empty f.lacks) (ended (items 0 f (semi ∷ []) (blank 0 f a) a)) (given stay (items 0 f is (blank k f a) a))
          (ended_rises (items 0 f (semi ∷ []) (blank 0 f a) a)) (given_rises stay (items 0 f is (blank k f a) a) tt)

-- THE TABLE

passes : (b : Block) → rises_body (rank b) (body b) ≡ true
unfolding rises_body rises_rows rises_act deeper
passes = each_block (λ b. rises_body (rank b) (body b)) refl

pub step_rises : {A M : Type 0} (v : ℕ) (f : Frame A) (a : Ahead A M) (b : Block) → Rises (rank b) (step v f a (body b))
step_rises v f a b = body_rises (rank b) v f a (body b) (passes b)

-- THE OPEN BLOCKS

pub rank_most : (b : Block) → rank b ≤ 5
rank_most b = leb-true (rank b) 5 (each_block (λ b. leb (rank b) 5) refl b)

-- what stands deeper than a block is not the library
pub no_library : (n : ℕ) (b : Block) → n < rank b → b ≡ Library → ⊥
no_library n b h e = let z : rank b ≡ 0 = ap rank e in omega (arith, z, h)

pub deeper_inside : (n : ℕ) (m : Move) → Deeper n m → Inside m
deeper_inside n stay h = tt
deeper_inside n (enter b ks) h = no_library n b h
deeper_inside n (named b ks) h = no_library n b h
deeper_inside n version h = tt

module _ (f : Frame ℕ) (fs : List (Frame ℕ)) (r : Ranked (f ∷ fs)) where
  -- where a record opens a block there is room for one more
  pub deeper_room : (m : Move) → Deeper (rank f.block) m → Pushes m → length fs < 5
  deeper_room stay h p = absurd p
  deeper_room (enter b ks) h p = omega (arith, h, r.0, rank_most b)
  deeper_room (named b ks) h p = omega (arith, h, r.0, rank_most b)
  deeper_room version h p = absurd p

  pub shift_ranked : (m : Move) → Deeper (rank f.block) m → (k p : ℕ) (label : List ℕ) (u v : ℕ) → Ranked (shift m k p label u v f fs).blocks
  shift_ranked stay h k p label u v = r
  shift_ranked (enter b ks) h k p label u v = (omega (arith, h, r.0), r)
  shift_ranked (named b ks) h k p label u v = (omega (arith, h, r.0), r)
  shift_ranked version h k p label u v = r

  pub become_ranked : (b : Block) → rank f.block ≤ rank b → Ranked (become b f ∷ fs)
  become_ranked b h = (omega (arith, h, r.0), r.1)
