use Rattle.std.proofs.Common.{◌≡◌, ◌+◌, ◌-◌, ◌++◌, List, ℕ, length, take, drop, subst, sym, ap, ◌∙◌, arith, rules}
use lib.Seq.{take-add}
use Rattle.std.specs.Io.KnownBytes.{Appends}
use Rattle.std.proofs.KnownBytes.{Appends-trans}
use Rattle.std.proofs.lemmas.Slice.{between_to_end}
use Rattle.streams.proofs.output.write_all.Goals as goal

-- the bytes that a write took follow those that were written before
pub loop-at-preserved : goal.loop-at-preserved
loop-at-preserved g c =
    let bytes = c.args.bytes.now in
    let at = c.loop-at.at in
    let count = c.in-Ok.count in
    let rest : take (length bytes - at) (drop at bytes) ≡ drop at bytes =
    between_to_end bytes at (length bytes) (omega arith) in
    let both : take at bytes ++ take count (take (length bytes - at) (drop at bytes)) ≡ take (at + count) bytes =
    ap (λ (tail : List ℕ). take at bytes ++ take count tail) rest ∙ sym (take-add at count bytes) in record {
      within = search rules;
      not_failed = search rules;
      bytes = subst (Appends (g.W.AnswerOutput.written c.args.output.now) (g.W.AnswerOutput.written c.write.new.self))
          both
          (Appends-trans (g.W.AnswerOutput.written c.args.output.now) (g.W.AnswerOutput.written c.loop-at.output)
          (g.W.AnswerOutput.written c.write.new.self) _ _ c.loop-at.invariant.bytes c.in-Ok.ensures.bytes);
    }
