use Rattle.std.proofs.Common.{◌∙◌, Option, ap, codes, false}
use Rattle.std.specs.Prelude.{bytes_eq}
use Rattle.std.specs.Option.{option_map_or}
use Rattle.clap.specs.Words.{Text, found_of}
use Rattle.clap.proofs.WalkLemmas.{first_value-rows}
use Rattle.command_line.proofs.words.is_given.Goals as goal

-- an option without a row is not given
pub returns-in_default : goal.returns-in_default
returns-in_default c =
    ap (λ (found : Option Text). option_map_or (λ text. bytes_eq text (codes "true")) found false)
    (c.in_default.ensures ∙ first_value-rows (found_of c.args.arguments.now) c.args.name.now)

-- an option is given exactly if its row has `true`
pub returns : goal.returns
returns c =
    c.eq.ensures
    ∙ ap (λ (found : Option Text). option_map_or (λ text. bytes_eq text (codes "true")) found false)
    (c.in-Some.ensures ∙ first_value-rows (found_of c.args.arguments.now) c.args.name.now)
