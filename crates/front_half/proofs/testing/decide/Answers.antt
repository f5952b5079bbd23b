use Rattle.std.proofs.Common.{◌∙◌, sym, ap, ℕ, Option}
use Rattle.do_tree.specs.Checked.{tree_of}
use Rattle.timeline.specs.Eligible.{is_fit}
use Rattle.front_turns.specs.Held.{life_in}
use Rattle.front_half.specs.Taking.{at_mode}
use Rattle.front_half.proofs.Held.{some_class}
use Rattle.front_half.proofs.Judging.{fit_doing, unfit_doing}
use Rattle.front_half.proofs.testing.decide.Goals as goal

pub returns-then-is_fit : goal.returns-then-is_fit
returns-then-is_fit g c = λ st half.
    let script = tree_of c.args.checked.now in
    let k = some_class st.class in
    c.at_mode.ensures (life_in script k.0 st.front.incarnation) st.front.mode (half.mode k.0 k.1)
    ∙ ap (λ (i : ℕ). at_mode i st.front.mode c.args.event.now) half.incarnation
    ∙ sym (fit_doing script st c.args.event.now
    (ap (λ (x : Option ℕ). is_fit script x c.args.event.now) (sym half.class) ∙ sym c.is_fit.ensures ∙ c.if-is_fit.true))

pub returns : goal.returns
returns g c = λ st half.
    let script = tree_of c.args.checked.now in
    sym (unfit_doing script st c.args.event.now
    (ap (λ (x : Option ℕ). is_fit script x c.args.event.now) (sym half.class) ∙ sym c.is_fit.ensures ∙ c.if-is_fit.false))
