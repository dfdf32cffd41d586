-- The records of a reading stand in order, are owned by what is open, and are named by tokens, since each turn's record does.
use Prim.Native.Nat.{ℕ}
use mathlib.Core.List.{List, [], ◌∷◌, Memᴰ}
use Rattle.grammar.specs.Tokens.{Tok, Ahead}
use Rattle.grammar.specs.Table.{body}
use Rattle.grammar.specs.Engine.{Maybe, some, Rec}
use Rattle.grammar.specs.Turns.{State, Outcome, read, stopped, turns}
use Rattle.grammar.proofs.Kept.{Suf, here, there, suf_trans, all, Named}
use Rattle.grammar.proofs.Turned.{Open, Reads, every_reading}

-- the first list is the second with some left out
pub data Sub {A : Type 0} : List A → List A → Type 0 where
  stop : {l : List A} → Sub [] l
  skip : {p : A} {k l : List A} → Sub k l → Sub k (p ∷ l)
  keep : {p : A} {k l : List A} → Sub k l → Sub (p ∷ k) (p ∷ l)

-- where the tokens start, but for the last, which cannot be taken
abbrev pub starts : {A M : Type 0} → List (Tok A M) → List A
starts [] = []
starts (t ∷ []) = []
starts (t ∷ u ∷ l) = t.at ∷ starts (u ∷ l)

-- where the records start
abbrev pub ats : {A : Type 0} → List (Rec A) → List A
ats [] = []
ats (r ∷ rs) = r.at ∷ ats rs

starts_skip : {A M : Type 0} (ps : List A) (t : Tok A M) (l : List (Tok A M)) → Sub ps (starts l) → Sub ps (starts (t ∷ l))
starts_skip ps t [] h = h
starts_skip ps t (u ∷ l) h = skip h

starts_suf : {A M : Type 0} (ps : List A) {k l : List (Tok A M)} → Suf k l → Sub ps (starts k) → Sub ps (starts l)
starts_suf ps here h = h
starts_suf ps (there {b} {k} {l} s) h = starts_skip ps b l (starts_suf ps s h)

starts_keep : {A M : Type 0} (ps : List A) (t u : Tok A M) (k l : List (Tok A M)) → Suf (u ∷ k) l → Sub ps (starts (u ∷ k)) → Sub (t.at ∷ ps) (starts (t ∷ l))
starts_keep ps t u k [] s h = elim s [ ]
starts_keep ps t u k (w ∷ l) s h = keep (starts_suf ps s h)

-- THE PLACES of the records are those of tokens ahead, in order, none twice
pub in_order : {A M : Type 0} (n : ℕ) (s : State A) (a : Ahead A M) → Reads (λ rs. Sub (ats rs) (starts (all a))) (turns body n s a)
in_order = every_reading (λ fs a rs. Sub (ats rs) (starts (all a)))
    (λ fs a. stop)
    (λ fs a r s b rs h p. rw h.at (starts_keep (ats rs) a.held b.held b.rest a.rest h.ahead p))
    (λ fs a s b rs h p. starts_skip (ats rs) a.held a.rest (starts_suf (ats rs) h.ahead p))

reads_map : {A M : Type 0} (P Q : List (Rec A) → Type 0) → ((rs : List (Rec A)) → P rs → Q rs) → (o : Outcome M (Rec A)) → Reads P o → Reads Q o
reads_map P Q f (read rs) h = f rs h
reads_map P Q f (stopped n p) h = tt

-- THE OWNERS: each record's is known, as none or as the place of an earlier record
abbrev pub Owned : {A : Type 0} → List (Maybe A) → List (Rec A) → Type 0
Owned known [] = Unit {0}
Owned known (r ∷ rs) = Memᴰ r.owner known × Owned (some r.at ∷ known) rs

pub owned : {A M : Type 0} (known : List (Maybe A)) (n : ℕ) (s : State A) (a : Ahead A M) → Open known s.blocks → Reads (Owned known) (turns body n s a)
owned {A} {M} known n s a h = reads_map (λ rs. (known : List (Maybe A)) → Open known s.blocks → Owned known rs) (Owned known) (λ rs p. p known h) (turns body n s a)
    (every_reading {A = A} {M = M} (λ fs a rs. (known : List (Maybe A)) → Open known fs → Owned known rs)
    (λ fs a known o. tt)
    (λ fs a r s b rs h p known o. (h.owner known o, p (some r.at ∷ known) (h.blocks known o)))
    (λ fs a s b rs h p known o. p known (h.blocks known o))
    n s a)

-- THE NAMES: each record has none, or that of a token ahead
abbrev pub AllNamed : {A M : Type 0} → List (Tok A M) → List (Rec A) → Type 0
AllNamed ts [] = Unit {0}
AllNamed ts (r ∷ rs) = Named ts r.name × AllNamed ts rs

pub all_named : {A M : Type 0} (n : ℕ) (s : State A) (a : Ahead A M) → Reads (AllNamed (all a)) (turns body n s a)
all_named {A} {M} n s a = reads_map (λ rs. (ts : List (Tok A M)) → Suf (all a) ts → AllNamed ts rs) (AllNamed (all a)) (λ rs p. p (all a) here) (turns body n s a)
    (every_reading (λ fs a rs. (ts : List (Tok A M)) → Suf (all a) ts → AllNamed ts rs)
    (λ fs a ts o. tt)
    (λ fs a r s b rs h p ts o. (h.name ts o, p ts (suf_trans h.ahead (suf_trans (there here) o))))
    (λ fs a s b rs h p ts o. p ts (suf_trans h.ahead (suf_trans (there here) o)))
    n s a)
