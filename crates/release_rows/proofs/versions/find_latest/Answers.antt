use Rattle.std.proofs.Common.{◌<◌, ◌/◌, ◌^◌, length, arith, length-set}
use Rattle.std.proofs.lemmas.Grind.{common_steps}
use Rattle.release_rows.proofs.VersionLemmas.{latest_keeps, latest_start, latest_takes, no_version}
use Rattle.release_rows.proofs.versions.find_latest.Goals as goal
use Rattle.release_rows.proofs.versions.find_latest.Goals.{then-index-code, else-index-code}

-- the key of the version has an index in `latest` that can be read
pub index-requires : goal.index-requires
index-requires c = grind
    (arith, c.requires c.loop-number.number no_version, c.code_and_place-code.ensures.code no_version)

-- the key of the version has an index in `latest` that can be written
pub index_mut-requires : goal.index_mut-requires
index_mut-requires c = grind
    (arith, c.requires c.loop-number.number no_version, c.code_and_place-code.ensures.code no_version)

-- after one more version, `latest` has the greatest code of each key so far
pub loop-number-preserved : goal.loop-number-preserved
loop-number-preserved c =
    let latest = c.loop-number.latest.items in
    let versions = c.args.versions.now in
    let number = c.loop-number.number in
    let code = c.code_and_place-code.result.0 in
    let within : number < length versions = omega arith in
    let among : code / 2 ^ 32 < length latest =
    grind (arith, c.requires number no_version, c.code_and_place-code.ensures.code no_version) in
    let takes = latest_takes latest versions number no_version within c.loop-number.invariant.1 code
    (c.code_and_place-code.ensures.code no_version) among in
    grind (
      arith,
      common_steps,
      length-set,
      takes,
      latest_keeps latest versions number no_version within c.loop-number.invariant.1 code
          (c.code_and_place-code.ensures.code no_version),
    )

-- a list of zeros has the greatest codes of no version
pub loop-number-init : goal.loop-number-init
loop-number-init c =
    latest_start c.args.latest.now.items c.fill.new.self c.args.latest.now.len (omega (arith, c.args.latest.now.ok.0))
    (rw (← c.as_mut_slice.ensures.value) (c.fill.ensures.after (λ y is. is)))
