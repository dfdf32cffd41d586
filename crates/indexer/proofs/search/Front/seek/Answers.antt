-- `seek` meets its contract: what bears the owner and the name begins where `lower` says, if anywhere.
use mathlib.Core.Path.{◌≡◌, ap, sym, ◌∙◌}
use mathlib.Core.Bool.{true, true≢false}
use native.Mathlib.Omega.{arith}
use Rattle.entry.specs.Entries.{entry_in}
use Rattle.entry.specs.Order.{alike, name_of}
use Rattle.index.specs.Answers.{bears}
use Rattle.indexer.proofs.Seeking.{seeks_none, seeks_least, bears_of, bears_owner, bears_name}
use Rattle.indexer.proofs.search.Front.seek.Goals as goal
use Rattle.indexer.proofs.search.Front.seek.Goals.{then-e-owner-via-then-e-owner, then-e-owner-via-else-e-owner+then-not-alike}

pub returns-then-self-p : goal.returns-then-self-p
returns-then-self-p c =
    let a = c.args in
    let f = a.self.now in
    let l = c.lower-p in
    seeks_none f.text.now a.owner a.name.now (entry_in f.index.now) _ l.result f.rises l.ensures (λ h. absurd (omega arith))

pub returns-then-e-owner : goal.returns-then-e-owner
returns-then-e-owner c =
    let a = c.args in
    let f = a.self.now in
    let l = c.lower-p in
    let r = c.read-e in
    seeks_none f.text.now a.owner a.name.now (entry_in f.index.now) _ l.result f.rises l.ensures
    (λ h b. elim c.then-e-owner.branch [
      | then-e-owner-via-then-e-owner w ↦ w.if-e-owner.true (ap (λ e. e.owner) r.ensures.of ∙ bears_owner f.text.now a.owner a.name.now _ b)
      | then-e-owner-via-else-e-owner+then-not-alike w ↦
          true≢false (sym (bears_name f.text.now a.owner a.name.now _ b)
          ∙ sym (w.alike.ensures ∙ ap (λ n. alike n a.name.now) w.part.ensures ∙ ap (λ e. alike (name_of f.text.now e) a.name.now) r.ensures.of)
          ∙ w.if-not-alike.true)
    ])

pub returns : goal.returns
returns c =
    let a = c.args in
    let f = a.self.now in
    let l = c.lower-p in
    let e = c.read-e.ensures.of in
    let same = c.alike.ensures ∙ ap (λ n. alike n a.name.now) c.part.ensures ∙ ap (λ e. alike (name_of f.text.now e) a.name.now) e in
    let b : bears f.text.now a.owner a.name.now (entry_in f.index.now l.result) ≡ true =
    bears_of f.text.now a.owner a.name.now _ (sym (ap (λ e. e.owner) e) ∙ c.if-e-owner.false) (sym same ∙ c.if-not-alike.false) in (
      l.result,
      omega arith,
      b,
      sym (ap (λ e. e.at) e),
      λ j h k. omega (arith, ap (λ e. e.at) e, seeks_least f.text.now a.owner a.name.now (entry_in f.index.now) _ l.result f.rises l.ensures (omega arith) b j h k),
    )
