use Rattle.katan_origin.proofs.chains.Clock.+fa_fb.Given as goal

abbrev pub decreases-fa : goal.decreases-fa
decreases-fa l = l.self.number.0

abbrev pub decreases-fb : goal.decreases-fb
decreases-fb l = l.self.number.0
