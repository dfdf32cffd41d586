use Rattle.numeral.proofs.laid.+lay_natural.Given as goal

-- proposed from what the function passes where it calls itself
abbrev pub decreases-lay_natural : goal.decreases-lay_natural
decreases-lay_natural l = l.n
