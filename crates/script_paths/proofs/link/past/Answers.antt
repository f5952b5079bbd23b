use Rattle.std.proofs.Common.{◌≤◌, length, arith}
use Rattle.std.proofs.lemmas.Grind.{common_steps}
use Rattle.script_paths.proofs.Links.{links_kept, links_over}
use Rattle.script_paths.proofs.link.past.Goals as goal

pub returns-then-place-links-clause-links : goal.returns-then-place-links-clause-links
returns-then-place-links-clause-links c = links_kept c.args.links.now c.args.place

pub returns-else-place-links-clause-links : goal.returns-else-place-links-clause-links
returns-else-place-links-clause-links c =
    let past : length c.args.links.now ≤ c.args.place = grind (arith, common_steps) in
    links_over c.args.links.now c.args.place past
