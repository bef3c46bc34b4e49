use Rattle.std.proofs.lemmas.Cmp.{int_cmp_total}
use Rattle.std.proofs.lemmas.Map.Lookups.{exact_signed}
use Rattle.held_release.proofs.TableLemmas.{found_place, never_missed}
use Rattle.held_release.proofs.values.place_of.Goals as goal

-- the place that the binary search finds is that of the decimal
pub returns-in-Ok : goal.returns-in-Ok
returns-in-Ok c =
    found_place int_cmp_total c.args.decimals.now c.requires.rising c.args.decimal.now exact_signed c.in-Ok.place
    c.in-Ok.ensures.bound
    c.in-Ok.ensures.position

-- the binary search does not miss a decimal that is there
pub returns-in-Err : goal.returns-in-Err
returns-in-Err c =
    never_missed int_cmp_total c.args.decimals.now c.requires.rising c.args.decimal.now c.requires.there c.in-Err.place
    c.in-Err.ensures.position
