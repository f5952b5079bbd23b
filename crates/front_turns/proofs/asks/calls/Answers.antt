use Rattle.std.proofs.Common.{◌≡◌, ◌∙◌, sym, refl, ap, append-nil}
use Rattle.std.specs.Prelude.{ℕ, [], Option, Some, None, option_map}
use Rattle.do_value.specs.declared.value.Value.{Value}
use Rattle.script_mean.specs.declared.answer.Answer.TheVariants.{Thrown}
use Rattle.timeline.specs.Steps as steps
use Rattle.front_turns.specs.Held.{object_of}
use Rattle.front_turns.proofs.asks.calls.Goals as goal

-- as many calls were let through as is known of the task
both : (a b m n : ℕ) → ((made : ℕ) → steps.refusal a made ≡ steps.refusal b made) → m ≡ n → steps.refusal a m ≡ steps.refusal b n
both a b m n same made = same m ∙ ap (λ (x : ℕ). steps.refusal b x) made

pub returns-in-Some : goal.returns-in-Some
returns-in-Some g c = λ l ts t again deeper messages held paused waits same is.
    let e : steps.refusal deeper t.made ≡ Some (Thrown c.in-Some.value) =
    both deeper c.args.depth t.made _ same paused.running.made ∙ c.in_ok-value.ensures.refusal ∙ ap (λ (v : Option Value). option_map Thrown v) c.in-Some.is in
    rw e (record { tasks = ts; goes = t; says = []; held = held; paused = paused; said = sym (append-nil _); gives = refl })

pub returns-in_ok-state-in-None : goal.returns-in_ok-state-in-None
returns-in_ok-state-in-None g c = λ l ts t again deeper messages held paused waits same is.
    let e : steps.refusal deeper t.made ≡ None =
    both deeper c.args.depth t.made _ same paused.running.made ∙ c.in_ok-value.ensures.refusal ∙ ap (λ (v : Option Value). option_map Thrown v) c.in-None.is in
    rw e (c.in_ok-state-in-None.ensures l ts t (again (object_of c.args.object ts)) messages held paused waits (is (c.in_ok-value.ensures.few c.in-None.is).0))
