-- One turn of the loop over the items.
use Prim.Native.Nat.{ℕ, ◌/◌, ◌%◌, ◌^◌, ◌<◌}
use mathlib.Core.Path.{◌≡◌, refl, sym, ap, ◌∙◌}
use mathlib.Core.List.{List}
use Rattle.std.specs.Prelude.{Ok, Err}
use lib.ListN.{drop}
use Rattle.lexer.specs.declared.Token.{Token}
use Rattle.refusal.specs.declared.Refusal.{Refusal}
use Rattle.rows.specs.Packed.{item_at, items_of}
use Rattle.rows.proofs.Unpack.{split, no_items, over}
use Rattle.grammar.specs.Tokens.{Ahead, Answer, ok, refused, then, next_token}
use Rattle.grammar.specs.Engine.{Frame, Draft, item, items, passed}
use Rattle.grammar.specs.Reading.{Mark}
use Rattle.parser.specs.declared.draft.Sketch.{Sketch}
use Rattle.parser.specs.Code.{tok_of, ahead_of, Took, as_taken}
use Rattle.parser.specs.Drafts.{draft_of, Drafted, as_drafted, flatly, shown}
use Rattle.parser.proofs.Alike.{flat_then}
use Rattle.parser.proofs.Taking.{Takes, passes_none, no_item, afterwards, item_so}

module _ (text : List ℕ) (f : Frame ℕ) (b : Draft ℕ) (d : Sketch) (t : Token) (s : ℕ) (h : s < 2 ^ 64) (n : s ≡ 0 → ⊥) where
  -- the answer is what the item makes of the sketch
  abbrev One : Drafted → Type 0
  One r = as_drafted text b r ≡ flatly (item f (item_at (s % 256)) (draft_of text b d) (ahead_of text t))

  first : (r : Drafted) → One r → shown (items 0 f (items_of s) (draft_of text b d) (ahead_of text t)) ≡ shown (then (as_drafted text b r) (λ e a. items (passed (item_at (s % 256)) a) f (items_of (s / 256)) e a))
  unfolding items
  first r one =
      rw (split s h n, one)
      (flat_then (item_at (s % 256)) f (items_of (s / 256)) (item f (item_at (s % 256)) (draft_of text b d) (ahead_of text t)))

  pub stop : (e : Refusal) → One (Err e) → shown (as_drafted text b (Err e)) ≡ shown (items 0 f (items_of s) (draft_of text b d) (ahead_of text t))
  stop e one = rw (first (Err e) one)

  pub go : {k : ℕ} (e : Sketch) (next : Token) (u : ℕ) → One (Ok (e, next)) → k ≡ passed (item_at (s % 256)) (ahead_of text next) → items_of u ≡ drop k (items_of (s / 256))
      → shown (items 0 f (items_of u) (draft_of text b e) (ahead_of text next)) ≡ shown (items 0 f (items_of s) (draft_of text b d) (ahead_of text t))
  go {k} e next u one p l =
      rw (first (Ok (e, next)) one, l, p)
      (ap shown (sym (over (passed (item_at (s % 256)) (ahead_of text next)) f (items_of (s / 256)) (draft_of text b e) (ahead_of text next))))

-- the same of an item that takes the token held, and nothing more
flat_after : (c : Ahead ℕ Mark) (p : Answer ℕ Mark (Draft ℕ)) → afterwards c (flatly p) ≡ afterwards c p
flat_after c (ok d a) = refl
flat_after c (refused n m) = refl

module _ (text : List ℕ) (f : Frame ℕ) (b : Draft ℕ) (d : Sketch) (t : Token) (s : ℕ) (h : s < 2 ^ 64) (n : s ≡ 0 → ⊥) (takes : Takes (item_at (s % 256))) where
  pub untaken : (x : Refusal) → as_taken text t (Err x) ≡ next_token (ahead_of text t)
      → shown (as_drafted text b (Err x)) ≡ shown (items 0 f (items_of s) (draft_of text b d) (ahead_of text t))
  untaken x e =
      let i = no_item (ahead_of text t) x.number (record { place = x.place; line = x.line }) (sym e) f (item_at (s % 256)) (draft_of text b d) takes in
      stop text f b d t s h n x (sym (ap flatly i))

  pub onward : (next : Token) (e : Sketch) (u : Token) → Took text t next (ahead_of text t)
      → as_drafted text b (Ok (e, u)) ≡ flatly (item f (item_at (s % 256)) (draft_of text b d) (ahead_of text t))
      → shown (items 0 f (items_of (s / 256)) (draft_of text b e) (ahead_of text next)) ≡ shown (items 0 f (items_of s) (draft_of text b d) (ahead_of text t))
  onward next e u took one =
      let c = ahead_of text next in
      let same : ahead_of text u ≡ c =
      ap (afterwards c) one
      ∙ flat_after c (item f (item_at (s % 256)) (draft_of text b d) (ahead_of text t))
      ∙ item_so (ahead_of text t) c (tok_of text t) took f (item_at (s % 256)) (draft_of text b d) takes in
      ap (λ o. shown (items 0 f (items_of (s / 256)) (draft_of text b e) o)) (sym same)
      ∙ go text f b d t s h n e u (s / 256) one (sym (passes_none (item_at (s % 256)) (ahead_of text u) takes)) refl

pub end : (text : List ℕ) (f : Frame ℕ) (b : Draft ℕ) (d : Sketch) (t : Token) {s : ℕ} → s ≡ 0 → shown (as_drafted text b (Ok (d, t))) ≡ shown (items 0 f (items_of s) (draft_of text b d) (ahead_of text t))
unfolding items
end text f b d t z = rw (z, no_items)
