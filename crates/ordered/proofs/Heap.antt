-- Sorting by a heap: sinking restores a heap, since what rises was the greatest of the children; and the first of a heap comes after all, since
-- each is below its parent.
use Prim.Native.Nat.{ℕ, zero, suc, ◌+◌, ◌*◌, ◌/◌, ◌≤◌, ◌<◌}
use mathlib.Core.Path.{◌≡◌, refl, sym, ◌∙◌}
use mathlib.Core.Logic.{inl, inr, ⊎_elim, ◌≢◌}
use mathlib.Core.Bool.{Bool, true, false, true≢false}
use native.Mathlib.Decide.{dec_lt, ℕ_discrete}
use native.Mathlib.Omega.{arith}
use Rattle.ordered.specs.Order.{Order}
use Rattle.ordered.specs.Heap.{Child, Exchanged, NotAfter, Heap, Sinking, Greatest, Sunk, Sorting}

false_of : (b : Bool) → (b ≡ true → ⊥) → b ≡ false
false_of true h = absurd (h refl)
false_of false h = refl

-- POSITIONS

-- a child lies behind its parent
pub child_behind : (i c : ℕ) → Child i c → i < c
child_behind i c h = ⊎_elim (λ e. omega arith) (λ e. omega arith) h

-- and has one parent
pub one_parent : (i j c : ℕ) → Child i c → Child j c → i ≡ j
one_parent i j c h k = ⊎_elim (λ e. ⊎_elim (λ d. omega arith) (λ d. omega arith) k) (λ e. ⊎_elim (λ d. omega arith) (λ d. omega arith) k) h

-- the parent of any position but the first
pub parent : (k : ℕ) → Child (k / 2) (suc k)
parent k = elim (ℕ_discrete (suc k) (2 * (k / 2) + 1)) [
  | yes e ↦ inl e
  | no h ↦ inr (omega (arith, h))
]

module _ {A : Type 0} (before : A → A → Bool) where
  -- the second half has no children
  pub heap_half : (f : ℕ → A) (n : ℕ) → Heap before f (n / 2) n
  heap_half f n j c h k l = absurd (⊎_elim {C = ⊥} (λ e. omega arith) (λ e. omega arith) k)

module _ {A : Type 0} (before : A → A → Bool) (o : Order before) where
  -- THE ORDER

  pub not_after_refl : (a : A) → NotAfter before a a
  not_after_refl a = o.irreflexive a

  pub not_after_trans : (a b c : A) → NotAfter before a b → NotAfter before b c → NotAfter before a c
  not_after_trans a b c h k =
      false_of (before c a) (λ t. ⊎_elim (λ e. true≢false (sym e ∙ k)) (λ e. true≢false (sym e ∙ h)) (o.weak c a b t))

  pub before_not_after : (a b : A) → before a b ≡ true → NotAfter before a b
  before_not_after a b h =
      false_of (before b a) (λ t. true≢false (sym (o.transitive a b a h t) ∙ o.irreflexive a))

  -- THE GREATEST CHILD

  -- the first, where the second does not come after it
  pub greatest_first : (f : ℕ → A) (i n : ℕ) → 2 * i + 1 < n → (2 * i + 2 < n → before (f (2 * i + 1)) (f (2 * i + 2)) ≡ false) → Greatest before f i n (2 * i + 1)
  greatest_first f i n l h = record {
    child = inl refl;
    within = l;
    greatest = λ d k m. ⊎_elim (λ e. rw e (not_after_refl (f (2 * i + 1)))) (λ e. rw e (h (omega arith))) k;
  }

  -- the second, where it does
  pub greatest_second : (f : ℕ → A) (i n : ℕ) → 2 * i + 2 < n → before (f (2 * i + 1)) (f (2 * i + 2)) ≡ true → Greatest before f i n (2 * i + 2)
  greatest_second f i n l h = record {
    child = inr refl;
    within = l;
    greatest = λ d k m. ⊎_elim (λ e. rw e (before_not_after (f (2 * i + 1)) (f (2 * i + 2)) h)) (λ e. rw e (not_after_refl (f (2 * i + 2)))) k;
  }

  -- SINKING

  pub sinking_start : (f : ℕ → A) (start n : ℕ) → Heap before f (start + 1) n → Sinking before f start start n
  sinking_start f start n h = record {
    from = omega arith;
    others = λ j c l d k m. h j c (omega (arith, d)) k m;
    over = λ p c l k d m. absurd (omega (arith, child_behind p start k));
  }

  -- where none of its children comes after it, all is a heap
  pub sinking_end : (f : ℕ → A) (start i n : ℕ)
      → Sinking before f start i n
      → ((c : ℕ) → Child i c → c < n → NotAfter before (f c) (f i))
      → Heap before f start n
  sinking_end f start i n s h j c l k m = elim (ℕ_discrete j i) [
    | yes e ↦ rw e (h c (rw e at k) m)
    | no d ↦ s.others j c l d k m
  ]

  -- if the greatest does not, none does
  -- what sinks is exchanged with the greatest child
  module _ (f g : ℕ → A) (start i n c : ℕ) (s : Sinking before f start i n) (t : Greatest before f i n c) (h : before (f i) (f c) ≡ true)
      (x : Exchanged f g i c) where
    -- the children of i are now in order
    sunk_here : (d : ℕ) → Child i d → d < n → NotAfter before (g d) (g i)
    sunk_here d k m = rw x.first (elim (ℕ_discrete d c) [
      | yes e ↦ rw (e, x.second) (before_not_after (f i) (f c) h)
      | no a ↦ rw (x.other d (λ e. omega (arith, child_behind i d k)) a) (t.greatest d k m)
    ])

    -- those of another are
    sunk_there : (j d : ℕ) → start ≤ j → j ≢ i → j ≢ c → Child j d → d < n → NotAfter before (g d) (g j)
    sunk_there j d l a b k m = rw (x.other j a b) (elim (ℕ_discrete d i) [
      | yes e ↦ rw (e, x.first) (s.over j c l (rw e at k) t.child t.within)
      | no u ↦
          rw (x.other d u (λ e. a (one_parent j i c (rw e at k) t.child))) (s.others j d l a k m)
    ])

    pub sinking_next : Sinking before g start c n
    sinking_next = record {
      from = omega (arith, s.from, child_behind i c t.child);
      others = λ j d l a k m. elim (ℕ_discrete j i) [
        | yes e ↦ rw e (sunk_here d (rw e at k) m)
        | no b ↦ sunk_there j d l b a k m
      ];
      over = λ p d l k q m.
          let down = child_behind i c t.child in
          let further = child_behind c d q in
          rw (one_parent p i c k t.child, x.first, x.other d (λ e. omega arith) (λ e. omega arith))
          (s.others c d (omega (arith, s.from)) (λ e. omega arith) q m);
    }

  -- SORTING

  -- the first of a heap comes before none
  root_above : (f : ℕ → A) (n : ℕ) → Heap before f 0 n → (m k : ℕ) → k ≤ m → k < n → NotAfter before (f k) (f 0)
  root_above f n h zero zero l b = not_after_refl (f 0)
  root_above f n h zero (suc k) l b = absurd (omega arith)
  root_above f n h (suc m) zero l b = not_after_refl (f 0)
  root_above f n h (suc m) (suc k) l b =
      not_after_trans (f (suc k)) (f (k / 2)) (f 0) (h (k / 2) (suc k) (omega arith) (parent k) b)
      (root_above f n h m (k / 2) (omega arith) (omega arith))

  pub root : (f : ℕ → A) (n : ℕ) → Heap before f 0 n → (k : ℕ) → k < n → NotAfter before (f k) (f 0)
  root f n h k l = root_above f n h k k (omega arith) l

  pub sorting_start : (f : ℕ → A) (n : ℕ) → Heap before f 0 n → Sorting before f n n
  sorting_start f n h = record {
    heap = h;
    behind = λ i j a b c. absurd (omega arith);
    done = λ i j a b c. absurd (omega arith);
  }

  pub sorting_end : (f : ℕ → A) (e n : ℕ) → Sorting before f e n → e ≤ 1 → (i j : ℕ) → i < j → j < n → NotAfter before (f i) (f j)
  sorting_end f e n s l i j a b = elim (dec_lt i e) [
    | yes h ↦ s.behind i j h (omega arith) b
    | no h ↦ s.done i j (omega (arith, h)) a b
  ]

  -- the first is exchanged with the last of the heap, and what is now the first sinks
  module _ (f g r : ℕ → A) (e n : ℕ) (some : 0 < e) (inside : e < n) (s : Sorting before f (e + 1) n) (x : Exchanged f g 0 e)
      (u : Sunk before g r e) where
    heap_behind : Heap before g 1 e
    heap_behind j c l k m =
        let down = child_behind j c k in
        rw (x.other j (λ q. omega arith) (λ q. omega arith), x.other c (λ q. omega arith) (λ q. omega arith)) (s.heap j c (omega arith) k (omega arith))

    -- where what now stands in the heap stood
    moved : (k : ℕ) → k < e → (j : ℕ) × (j < e + 1) × (g k ≡ f j)
    moved k l = elim (ℕ_discrete k 0) [
      | yes q ↦ (e, omega arith, rw q x.first)
      | no q ↦ (k, omega arith, x.other k q (λ z. omega arith))
    ]

    stood : (k : ℕ) → k < e → (j : ℕ) × (j < e + 1) × (r k ≡ f j)
    stood k l =
        let w = u.among k l in
        let v = moved w.0 w.1 in
        (v.0, v.1, w.2 ∙ v.2)

    -- what stands behind the heap
    last : r e ≡ f 0
    last = u.kept e (omega arith) ∙ x.second

    later : (j : ℕ) → e < j → r j ≡ f j
    later j l = u.kept j (omega arith) ∙ x.other j (λ q. omega arith) (λ q. omega arith)

    pub sorting_next : Sorting before r e n
    sorting_next = record {
      heap = u.heap heap_behind;
      behind = λ i j a b c.
          let w = stood i a in
          rw w.2 (elim (ℕ_discrete j e) [
            | yes q ↦ rw (q, last) (root f (e + 1) s.heap w.0 w.1)
            | no q ↦ rw (later j (omega (arith, q))) (s.behind w.0 j w.1 (omega (arith, q)) c)
          ]);
      done = λ i j a b c. rw (later j (omega arith)) (elim (ℕ_discrete i e) [
        | yes q ↦ rw (q, last) (s.behind 0 j (omega arith) (omega (arith, q)) c)
        | no q ↦ rw (later i (omega (arith, q))) (s.done i j (omega (arith, q)) b c)
      ]);
    }
