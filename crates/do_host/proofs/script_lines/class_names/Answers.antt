use Rattle.std.proofs.Common.{◌≡◌, List, [], ◌∷◌, map, take, take_all, refl, ap, ◌∙◌}
use Rattle.serde_json.specs.Data.{array, string}
use Rattle.serde_json.specs.View.{items_of}
use Rattle.serde_json.proofs.Views.{view-Array}
use Rattle.do_tree.specs.Seen.{class_of}
use Rattle.do_tree.specs.declared.script.Class.{Class}
use Rattle.do_host.proofs.script_lines.class_names.Goals as goal

seen_names : (classes : List Class) → map (λ class. string class.name.text) classes ≡ map (λ class. string class.name.text) (map class_of classes)
seen_names [] = refl
seen_names (class ∷ classes) = ap (λ names. string class.name.text ∷ names) (seen_names classes)

pub returns : goal.returns
returns c =
    let all : take c.loop-class.class-index c.args.classes.now ≡ c.args.classes.now = take_all _ c.args.classes.now c.loop-class-test.false in
    view-Array c.loop-class.names ∙ ap (λ ds. array (items_of ds)) (c.loop-class.invariant ∙ ap (map (λ class. string class.name.text)) all ∙ seen_names c.args.classes.now)
