use Rattle.std.proofs.Common.{inl, sym, ◌∙◌}
use Rattle.release_rows.proofs.PiecesLemmas.{device_fails_to_open, takes_unnamed}
use Rattle.release_rows.proofs.pieces.take_name.Goals as goal

-- a file without a kind has no places to take
pub returns-in-None-clause-goes : goal.returns-in-None-clause-goes
returns-in-None-clause-goes g c known told =
    takes_unnamed g.T.PlaceTaker.takes g.T.PlaceTaker.refuses c.args.file c.args.byte_limit known c.args.name.now
    (sym c.in-None.is ∙ c.file_kind.ensures) c.args.taker.now

-- if the file cannot be opened and the fault is not want of memory, the device failed at the file
pub returns-in-Err-clause-goes : goal.returns-in-Err-clause-goes
returns-in-Err-clause-goes g c known told other =
    inl (device_fails_to_open g.S.FileSource.history c.args.file c.args.name.now _ _ c.in-Err.fault c.fault_of.result
    c.in-Err.ensures.failures c.fault_of.ensures other)
