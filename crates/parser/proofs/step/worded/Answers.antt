-- `parser::step::worded` meets its contract: the word that was taken, and the act of its row.
use mathlib.Core.Path.{sym, ◌∙◌}
use Rattle.parser.proofs.Exits.{handed_on}
use Rattle.parser.proofs.Chosen.{no_word, untaken, taken_stopped, taken_runs}
use Rattle.parser.proofs.step.worded.Goals as goal

pub returns-in_err-next : goal.returns-in_err-next
returns-in_err-next c =
    let g = c.args in
    rw (handed_on _ _ c.from_residual.ensures.1) (record { of = no_word g.lent.now.now g.version g.f g.held _ c.in_err-next.ensures; low = tt })

pub returns-in_err-first : goal.returns-in_err-first
returns-in_err-first c =
    let g = c.args in
    rw (handed_on _ _ c.from_residual-in_err-first.ensures.1) (record {
      of = untaken g.lent.now.now g.version g.f g.held _ (c.in_err-first.ensures _ _ (sym c.in_ok-next.ensures));
      low = tt;
    })

pub stopped-requires : goal.stopped-requires
stopped-requires c =
    (c.if-act-gt-CLOSE.true, c.settled-row.ensures.plain)

pub returns-then-act-gt-CLOSE : goal.returns-then-act-gt-CLOSE
returns-then-act-gt-CLOSE c =
    let g = c.args in record {
      of = c.stopped.ensures.of g.lent.now.now g.f g.held
          ∙ taken_stopped g.lent.now.now g.version g.f g.held _ (c.in_ok-first.ensures _ _ (sym c.in_ok-next.ensures)) _ c.word_in.ensures _ _ _ c.row_of.ensures c.settled-row.ensures.same c.settled-row.ensures.plain c.if-act-gt-CLOSE.true;
      low = c.stopped.ensures.low;
    }

pub returns : goal.returns
returns c =
    let g = c.args in record {
      of = taken_runs g.lent.now.now g.version g.f g.held _ (c.in_ok-first.ensures _ _ (sym c.in_ok-next.ensures)) _ c.word_in.ensures _ _ _ c.row_of.ensures c.settled-row.ensures.same c.settled-row.ensures.plain c.if-act-gt-CLOSE.false;
      low = c.if-act-gt-CLOSE.false;
    }
