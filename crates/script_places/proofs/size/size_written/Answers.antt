use Rattle.std.proofs.Common.{◌+◌, Ok, sym, subst}
use Rattle.do_value.specs.Seen.{tree_of}
use Rattle.script_mean.specs.Places.{push}
use Rattle.script_places.specs.Steps.{change_of}
use Rattle.script_places.specs.Changes.{Sizes, whole_of}
use Rattle.script_places.proofs.Sized.{sized_push}
use Rattle.script_places.proofs.size.size_written.Goals as goal

pub returns-in-List : goal.returns-in-List
returns-in-List c =
    let sum = c.size-in-List.result + c.size-in-List-2.result in
    subst (λ w. Sizes (whole_of (change_of w (tree_of c.args.value.now))) (Ok sum)) (sym c.in-Push.is)
    (subst (λ v. Sizes (whole_of (push (tree_of c.in-Push.new) (tree_of v))) (Ok sum)) (sym c.in-List.is)
    (sized_push c.in-List.items (tree_of c.in-Push.new) c.size-in-List.result c.size-in-List-2.result c.size-in-List.ensures.value c.size-in-List-2.ensures.value
    c.size-in-List.ensures.within c.size-in-List-2.ensures.within))
