use Rattle.std.proofs.Common.{false, ◌≡◌, ◌≢◌, ◌⊎◌, ℕ, ◌+◌, ◌-◌, ◌^◌, ◌++◌, [], List, take}
use Rattle.std.proofs.Common.{Result, IfOk, subst, append-nil, length-append, Option, inl, inr, min, arith, rules}
use Rattle.std.specs.Io.KnownBytes.{Consumes}
use Rattle.std.proofs.KnownBytes.{Consumes-trans, Consumes-kept, Consumes-nil}
use Rattle.std.proofs.lemmas.Bool.{cases_lt}
use Rattle.std.proofs.lemmas.Result.{IfErr-weaker, on_ok_weaker}
use Rattle.std.proofs.lemmas.List.{length-take-le}
use Rattle.std.proofs.lemmas.List.Elements.{All-nil}
use Rattle.query_run.specs.Lines.{query_lines}
use Rattle.query_run.specs.declared.running.RunFault.{RunFault}
use Rattle.query_run.proofs.KeptLemmas.{kept_clear, last_count, last_leaves, last_written}
use Rattle.query_run.proofs.LineLemmas.{IsCutInto-pending, IsCutInto-then}
use Rattle.query_run.proofs.FaultLemmas.{AnswerFault-failed, AnswerFault-turns, answers_none, answers_then}
use Rattle.query_run.proofs.RunLemmas.{WritesFirst_cut, feeds_cut, HasStopped_in, finish_count, finish_answers}
use Rattle.query_run.proofs.RunLemmas.{finish_fault}
use Rattle.query_run.proofs.running.run.Goals as goal

-- a read of no byte consumes nothing
ended : (old mid new : Option (List ℕ)) (read buffer : List ℕ) (count : ℕ) → count ≡ 0 → Consumes old mid read
    → Consumes mid new (take count buffer) → Consumes old new read
ended old mid new read buffer count none first second =
    subst (Consumes old new) (append-nil read)
    (Consumes-trans old mid new read [] first (subst (λ (n : ℕ). Consumes mid new (take n buffer)) none second))

-- a count of answers stays right if the number of lines added to it is replaced by an equal number
counted : (result : Result ℕ RunFault) (answered more all : ℕ) → more ≡ all
    → IfOk result (λ count. count ≡ answered + more) → IfOk result (λ count. count ≡ answered + all)
counted result answered more all same is = subst (λ (n : ℕ). IfOk result (λ count. count ≡ answered + n)) same is

-- one more read makes the count of reads one greater, or the count stands still at its greatest number
next_turn : (before mid after turn : ℕ) → (mid ≡ before + turn) ⊎ (mid ≡ 2 ^ 64 - 1)
    → after ≡ min (mid + 1) (2 ^ 64 - 1) → (after ≡ before + (turn + 1)) ⊎ (after ≡ 2 ^ 64 - 1)
next_turn before mid after turn (inl is) counted = elim (cases_lt mid (2 ^ 64 - 1)) [
  | inl less ↦ inl (omega arith)
  | inr more ↦ inr (omega arith)
]
next_turn before mid after turn (inr full) counted = inr (omega arith)

-- before the first read no line is answered and nothing is written
pub loop-turn-init : goal.loop-turn-init
loop-turn-init g c =
    let written = g.W.AnswerOutput.written c.args.output.now in record {
      input_not_failed = c.requires.input;
      output_not_failed = c.requires.output;
      turns = inl (omega arith);
      reads = omega arith;
      room = search rules;
      waiting = c.in-Ok-new.ensures.waiting;
      few = omega (arith, c.in-Ok-new.ensures.answered);
      lines = (
        [],
        [],
        Consumes-nil (g.R.QueryInput.remaining c.args.input.now),
        ([], IsCutInto-pending [] (All-nil (λ byte. byte ≢ 10)), c.in-Ok-new.ensures.pending),
        c.in-Ok-new.ensures.answered,
        answers_none (g.A.AnswerLine.answers c.args.answerer.now) written,
      );
    }

-- if the input fails, the answers to all lines that ended are written
pub returns-in-Err-read-clause-fault : goal.returns-in-Err-read-clause-fault
returns-in-Err-read-clause-fault g c =
    let (read, lines, consumed, (unended, cut, kept), count, wrote) = c.loop-turn.invariant.lines in
    let answers = g.A.AnswerLine.answers c.args.answerer.now in
    let old = g.W.AnswerOutput.written c.args.output.now in
    let mid = g.W.AnswerOutput.written c.loop-turn.output in
    let answered = c.loop-turn.progress.answered in (
      read,
      Consumes-kept (g.R.QueryInput.remaining c.args.input.now) (g.R.QueryInput.remaining c.loop-turn.input)
          (g.R.QueryInput.remaining c.read.new.self) read consumed c.in-Err-read.ensures.bytes,
      WritesFirst_cut answers read lines unended cut answered count old mid wrote,
      feeds_cut answers read lines unended cut answered count old mid wrote,
    )

-- at the end of the input the count is the number of query lines
pub returns-then-count-eq0-clause-count : goal.returns-then-count-eq0-clause-count
returns-then-count-eq0-clause-count g c =
    let (read, lines, consumed, (unended, cut, kept), count, wrote) = c.loop-turn.invariant.lines in
    let input_old = g.R.QueryInput.remaining c.args.input.now in
    let input_mid = g.R.QueryInput.remaining c.loop-turn.input in
    let input_new = g.R.QueryInput.remaining c.read.new.self in
    let all : Consumes input_old input_new read =
    ended input_old input_mid input_new read c.read.new.buffer c.in-Ok-read.count c.if-count-eq0.true consumed
    c.in-Ok-read.ensures.bytes.0 in
    finish_count (g.A.AnswerLine.answers c.args.answerer.now) read lines unended cut c.loop-turn.progress.answered
    count (g.W.AnswerOutput.written c.args.output.now) (g.W.AnswerOutput.written c.loop-turn.output)
    wrote input_old input_new (g.W.AnswerOutput.written c.finish.new.output) all c.finish.result
    (c.in-Ok-read.ensures.bytes.1 c.if-count-eq0.true (omega (arith, c.loop-turn.invariant.room)))
    (counted c.finish.result c.loop-turn.progress.answered _ _
    (last_count unended c.loop-turn.progress.pending.items kept cut.unended) c.finish.ensures.count)

-- at the end of the input the answers to all query lines are written
pub returns-then-count-eq0-clause-answers : goal.returns-then-count-eq0-clause-answers
returns-then-count-eq0-clause-answers g c =
    let (read, lines, consumed, (unended, cut, kept), count, wrote) = c.loop-turn.invariant.lines in
    let input_old = g.R.QueryInput.remaining c.args.input.now in
    let input_mid = g.R.QueryInput.remaining c.loop-turn.input in
    let input_new = g.R.QueryInput.remaining c.read.new.self in
    let all : Consumes input_old input_new read =
    ended input_old input_mid input_new read c.read.new.buffer c.in-Ok-read.count c.if-count-eq0.true consumed
    c.in-Ok-read.ensures.bytes.0 in
    finish_answers (g.A.AnswerLine.answers c.args.answerer.now) read lines unended cut c.loop-turn.progress.answered
    count (g.W.AnswerOutput.written c.args.output.now) (g.W.AnswerOutput.written c.loop-turn.output)
    wrote input_old input_new (g.W.AnswerOutput.written c.finish.new.output) all c.finish.result
    (c.in-Ok-read.ensures.bytes.1 c.if-count-eq0.true (omega (arith, c.loop-turn.invariant.room)))
    (on_ok_weaker c.finish.result (last_written (g.A.AnswerLine.answers c.args.answerer.now)
    (g.met.A.AnswerLine.same_front c.args.answerer.now) unended c.loop-turn.progress.pending.items kept cut.unended _
    _) c.finish.ensures.answer)

-- a fault of the last answer leaves the answers before it written
pub returns-then-count-eq0-clause-fault : goal.returns-then-count-eq0-clause-fault
returns-then-count-eq0-clause-fault g c =
    let (read, lines, consumed, (unended, cut, kept), count, wrote) = c.loop-turn.invariant.lines in
    let input_old = g.R.QueryInput.remaining c.args.input.now in
    let input_mid = g.R.QueryInput.remaining c.loop-turn.input in
    let input_new = g.R.QueryInput.remaining c.read.new.self in
    let all : Consumes input_old input_new read =
    ended input_old input_mid input_new read c.read.new.buffer c.in-Ok-read.count c.if-count-eq0.true consumed
    c.in-Ok-read.ensures.bytes.0 in
    finish_fault (g.A.AnswerLine.answers c.args.answerer.now) read lines unended cut c.loop-turn.progress.answered
    count (g.W.AnswerOutput.written c.args.output.now) (g.W.AnswerOutput.written c.loop-turn.output)
    wrote input_old input_new (g.W.AnswerOutput.written c.finish.new.output) all c.finish.result
    (g.W.AnswerOutput.has_failed c.finish.new.output)
    (IfErr-weaker c.finish.result _ _ (λ fault left. (
      left.0,
      last_leaves
          (g.A.AnswerLine.answers c.args.answerer.now)
          (g.met.A.AnswerLine.same_front c.args.answerer.now) unended c.loop-turn.progress.pending.items kept
          cut.unended
          fault _ _ left.1,
    )) c.finish.ensures.fault)

-- a fault of an answer in a piece leaves the answers before it written
pub returns-in-Err-take_piece-clause-fault : goal.returns-in-Err-take_piece-clause-fault
returns-in-Err-take_piece-clause-fault g c =
    let (read, lines, consumed, (unended, cut, kept), count, wrote) = c.loop-turn.invariant.lines in
    let (further, is, leaves) = c.in-Err-take_piece.ensures.fault unended cut.unended kept in
    let piece : List ℕ = take c.in-Ok-read.count c.read.new.buffer in
    let input_old = g.R.QueryInput.remaining c.args.input.now in
    let input_new = g.R.QueryInput.remaining c.read.new.self in
    let all : Consumes input_old input_new (read ++ piece) =
    Consumes-trans input_old (g.R.QueryInput.remaining c.loop-turn.input) input_new read piece consumed
    c.in-Ok-read.ensures.bytes.0 in
    HasStopped_in (g.A.AnswerLine.answers c.args.answerer.now) read lines unended cut c.loop-turn.progress.answered
    count (g.W.AnswerOutput.written c.args.output.now) (g.W.AnswerOutput.written c.loop-turn.output) wrote
    c.in-Err-take_piece.fault (query_lines (unended ++ piece)) further
    (g.W.AnswerOutput.has_failed c.take_piece.new.output) (read ++ piece) input_old input_new
    (g.W.AnswerOutput.written c.take_piece.new.output)
    all (cut.goes_on piece) is leaves

-- after one more piece its lines are answered, and the bytes after them are pending
pub loop-turn-preserved : goal.loop-turn-preserved
loop-turn-preserved g c =
    let (read, lines, consumed, (unended, cut, kept), count, wrote) = c.loop-turn.invariant.lines in
    let (more, (following, cut_more, kept_more), count_more, wrote_more) =
    c.in-Ok-take_piece.ensures.ok unended cut.unended kept in
    let piece : List ℕ = take c.in-Ok-read.count c.read.new.buffer in record {
      input_not_failed = search rules;
      output_not_failed = c.in-Ok-take_piece.ensures.not_failed;
      turns = next_turn (g.R.QueryInput.read_count c.args.input.now) (g.R.QueryInput.read_count c.loop-turn.input)
          (g.R.QueryInput.read_count c.read.new.self) c.loop-turn._turn c.loop-turn.invariant.turns
          c.read.ensures.counted;
      reads = omega (arith, c.read.ensures.counted, c.loop-turn.invariant.reads);
      room = search rules;
      waiting = c.in-Ok-take_piece.ensures.waiting;
      few = omega (
        arith,
        c.in-Ok-take_piece.ensures.few,
        c.in-Ok-read.ensures.within,
        c.loop-turn.invariant.few,
        c.loop-turn.invariant.room,
        length-take-le c.in-Ok-read.count c.read.new.buffer c.in-Ok-read.ensures.within,
      );
      lines = (
        read ++ piece,
        lines ++ more,
        Consumes-trans (g.R.QueryInput.remaining c.args.input.now) (g.R.QueryInput.remaining c.loop-turn.input)
            (g.R.QueryInput.remaining c.read.new.self) read piece consumed c.in-Ok-read.ensures.bytes.0,
        (following, IsCutInto-then read lines unended piece more following cut cut_more, kept_more),
        omega (arith, count, count_more, length-append lines more),
        answers_then (g.A.AnswerLine.answers c.args.answerer.now) (g.W.AnswerOutput.written c.args.output.now)
            (g.W.AnswerOutput.written c.loop-turn.output)
            (g.W.AnswerOutput.written c.take_piece.new.output) lines more wrote wrote_more,
      );
    }

-- after 2^40 reads the answers to all lines that ended are written
pub returns-clause-fault : goal.returns-clause-fault
returns-clause-fault g c =
    let (read, lines, consumed, (unended, cut, kept), count, wrote) = c.loop-turn.invariant.lines in
    let answers = g.A.AnswerLine.answers c.args.answerer.now in
    let old = g.W.AnswerOutput.written c.args.output.now in
    let mid = g.W.AnswerOutput.written c.loop-turn.output in
    let answered = c.loop-turn.progress.answered in (
      read,
      consumed,
      WritesFirst_cut answers read lines unended cut answered count old mid wrote,
      feeds_cut answers read lines unended cut answered count old mid wrote,
    )

-- what is kept of a line without a line feed has no line feed
pub finish-requires-clause-unended : goal.finish-requires-clause-unended
finish-requires-clause-unended g c =
    let (read, lines, consumed, (unended, cut, kept), count, wrote) = c.loop-turn.invariant.lines in
    kept_clear unended c.loop-turn.progress.pending.items kept cut.unended

-- if an answer met a fault, the input has not failed
pub returns-in-Err-take_piece-clause-failed : goal.returns-in-Err-take_piece-clause-failed
returns-in-Err-take_piece-clause-failed g c =
    let (read, lines, consumed, (unended, cut, kept), count, wrote) = c.loop-turn.invariant.lines in
    let (further, is, leaves) = c.in-Err-take_piece.ensures.fault unended cut.unended kept in
    let not_failed : g.R.QueryInput.has_failed c.read.new.self ≡ false = search rules in
    AnswerFault-failed c.in-Err-take_piece.fault _ _ _ not_failed is

-- if an answer met a fault, the fault is not `Turns`
pub returns-in-Err-take_piece-clause-turns : goal.returns-in-Err-take_piece-clause-turns
returns-in-Err-take_piece-clause-turns g c =
    let (read, lines, consumed, (unended, cut, kept), count, wrote) = c.loop-turn.invariant.lines in
    let (further, is, leaves) = c.in-Err-take_piece.ensures.fault unended cut.unended kept in
    AnswerFault-turns c.in-Err-take_piece.fault _ _ _ _ is

-- a run that ends well has read its input to the end
pub returns-then-count-eq0-clause-end : goal.returns-then-count-eq0-clause-end
returns-then-count-eq0-clause-end g c =
    let ended = c.in-Ok-read.ensures.bytes.1 c.if-count-eq0.true (omega (arith, c.loop-turn.invariant.room)) in
    on_ok_weaker c.finish.result (λ not_failed. ended) c.finish.ensures.not_failed

-- after a run that ends well neither stream has failed
pub returns-then-count-eq0-clause-not_failed : goal.returns-then-count-eq0-clause-not_failed
returns-then-count-eq0-clause-not_failed g c =
    let input_not_failed : g.R.QueryInput.has_failed c.read.new.self ≡ false = search rules in
    on_ok_weaker c.finish.result (λ not_failed. (input_not_failed, not_failed)) c.finish.ensures.not_failed

-- if the last answer met a fault, the input has not failed
pub returns-then-count-eq0-clause-failed : goal.returns-then-count-eq0-clause-failed
returns-then-count-eq0-clause-failed g c =
    let not_failed : g.R.QueryInput.has_failed c.read.new.self ≡ false = search rules in
    IfErr-weaker c.finish.result _ _ (λ fault left. AnswerFault-failed fault _ _ _ not_failed left.0)
    c.finish.ensures.fault

-- if the last answer met a fault, the fault is not `Turns`
pub returns-then-count-eq0-clause-turns : goal.returns-then-count-eq0-clause-turns
returns-then-count-eq0-clause-turns g c =
    IfErr-weaker c.finish.result _ _ (λ fault left. AnswerFault-turns fault _ _ _ _ left.0) c.finish.ensures.fault

-- a run that ends at `Turns` has read its input 2^40 times
pub returns-clause-turns : goal.returns-clause-turns
returns-clause-turns g c = elim c.loop-turn.invariant.turns [
  | inl is ↦ inl (omega (arith, is, c.loop-turn-test.false, c.loop-turn.auto._turn-end))
  | inr is ↦ inr is
]
