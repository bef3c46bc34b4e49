-- The contents that the fields of an engine stand for, and the invariant of the fields.
use Rattle.std.specs.List.Sorted.{IsStrictlyIncreasing}
use Rattle.held_release.specs.Contents.{Contents}
use Rattle.postings.specs.Indexed.{IsIndexOf}
use Rattle.query_tool.specs.declared.engine.Engine.TheInside.{Inside}

-- the contents of the release in an engine
abbrev pub contents_in : Inside → Contents
contents_in inside = inside.snapshot

-- the concepts of the release rise, and the indexes are those of the release
abbrev pub IsReady : Inside → Type 0
IsReady inside =
    IsStrictlyIncreasing inside.snapshot.release.concepts
    × IsIndexOf inside.indexes inside.snapshot.release
