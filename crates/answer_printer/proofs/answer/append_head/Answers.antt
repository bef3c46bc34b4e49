use Rattle.answer_printer.specs.inside.Prefix.{IsPrefixOf}
use Rattle.answer_printer.proofs.AnswerLemmas.{prefix_more, prefix_of, prefix_same}
use Rattle.answer_printer.proofs.answer.append_head.Goals as goal

-- if the head is appended, the output begins with the bytes that it had
pub returns-clause-begun : goal.returns-clause-begun
returns-clause-begun c =
    let given = c.args.output.now.items in
    let word : IsPrefixOf given c.extend_from_slice.new.self.items =
    rw c.in_ok-extend_from_slice.ensures.items (prefix_of given _) in
    let number : IsPrefixOf given c.append_number.new.output.items =
    rw c.in_ok-append_number.ensures.ok (prefix_more given _ _ word) in
    rw c.in_ok-push.ensures.items (prefix_more given _ _ number)

-- if memory for the line feed is refused, the output begins with the bytes that it had
pub returns-in_err-push-clause-begun : goal.returns-in_err-push-clause-begun
returns-in_err-push-clause-begun c =
    let given = c.args.output.now.items in
    let word : IsPrefixOf given c.extend_from_slice.new.self.items =
    rw c.in_ok-extend_from_slice.ensures.items (prefix_of given _) in
    rw (c.in_err-push.ensures.items, c.in_ok-append_number.ensures.ok) (prefix_more given _ _ word)

-- if memory for the number is refused, the output begins with the bytes that it had
pub returns-in_err-append_number-clause-begun : goal.returns-in_err-append_number-clause-begun
returns-in_err-append_number-clause-begun c =
    let given = c.args.output.now.items in
    rw (c.in_err-append_number.ensures.err, c.in_ok-extend_from_slice.ensures.items) (prefix_of given _)

-- if memory for `OK` is refused, the output begins with the bytes that it had
pub returns-in_err-extend_from_slice-clause-begun : goal.returns-in_err-extend_from_slice-clause-begun
returns-in_err-extend_from_slice-clause-begun c =
    rw c.in_err-extend_from_slice.ensures.items (prefix_same c.args.output.now.items)
