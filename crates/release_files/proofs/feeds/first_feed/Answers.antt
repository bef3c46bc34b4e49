use Rattle.std.proofs.Common.{◌≡◌, ◌+◌, ◌<◌, ◌≤◌, ap, arith, drop, length, length-drop, take}
use Rattle.std.specs.Int.Count.{count_trailing_zeros}
use Rattle.std.proofs.lemmas.List.{take_rest}
use Rattle.release_files.specs.inside.Feeds.{feed_bits}
use Rattle.release_files.proofs.FeedLemmas.{block_clear, block_feed, rest_clear, rest_feed}
use Rattle.release_files.proofs.feeds.first_feed.Goals as goal

-- if the next block has a line feed, its lowest bit tells the first line feed of all
pub returns-then-feeds-ne0 : goal.returns-then-feeds-ne0
returns-then-feeds-ne0 c =
    let bytes = c.args.bytes.now in
    let place = c.loop-place.place in
    let room : place + 64 ≤ length bytes = omega arith in
    let some : 0 < feed_bits (take 64 (drop place bytes)) = omega (arith, c.feeds_at-feeds.ensures) in
    let found = block_feed bytes place (count_trailing_zeros 64 c.feeds_at-feeds.result) room
    c.loop-place.invariant.clear some (ap (count_trailing_zeros 64) c.feeds_at-feeds.ensures) in
    (found.within, found.before, found.is)

-- a block without a line feed keeps the invariant for the next block
pub loop-place-preserved : goal.loop-place-preserved
loop-place-preserved c =
    let bytes = c.args.bytes.now in
    let place = c.loop-place.place in
    let room : place + 64 ≤ length bytes = omega arith in
    let none : feed_bits (take 64 (drop place bytes)) ≡ 0 = omega (arith, c.feeds_at-feeds.ensures) in
    record { within = room; clear = block_clear bytes place room c.loop-place.invariant.clear none }

-- a line feed that is found after the last whole block is the first of all
pub returns-in-Some : goal.returns-in-Some
returns-in-Some c =
    let bytes = c.args.bytes.now in
    let place = c.loop-place.place in
    let told = rw (take_rest bytes place) at c.in-Some.ensures in
    let found = rest_feed bytes place c.in-Some.at c.loop-place.invariant.within c.loop-place.invariant.clear
    told.0.high (λ k low. told.0.before k (omega arith) low) told.1 in
    (found.within, found.before, found.is)

-- if no line feed is found after the last whole block, there is none
pub returns-in-None : goal.returns-in-None
returns-in-None c =
    let bytes = c.args.bytes.now in
    let place = c.loop-place.place in
    let told = rw (take_rest bytes place) at c.in-None.ensures in
    let long = length (drop place bytes) in
    let clear = rest_clear bytes place long c.loop-place.invariant.clear (λ k low. told k (omega arith) low) in
    λ k below. clear k (omega (arith, below, length-drop place bytes, c.loop-place.invariant.within))
