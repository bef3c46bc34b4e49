use Rattle.std.proofs.Common.{◌≡◌, map, take}
use Rattle.held_release.proofs.texts.Texts.new.Given as goal

-- `own` has the texts so far
abbrev pub invariant-loop-text : goal.invariant-loop-text
invariant-loop-text l = l.own ≡ map (λ text. text.now) (take l.text-index l.texts)
