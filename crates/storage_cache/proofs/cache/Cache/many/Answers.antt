use Rattle.std.proofs.Common.{ap, ◌∙◌, subst}
use Rattle.std.specs.List.{filter}
use Rattle.std.specs.Str.{bytes_eq}
use Rattle.std.specs.Set.{is_member}
use Rattle.std.specs.FinMap.{entries}
use Rattle.storage_map.specs.Readings.{listed}
use Rattle.storage_map.specs.declared.options.Options.{Options}
use Rattle.storage_cache.specs.Cached.{Cached}
use Rattle.storage_cache.specs.Looks.{AreHeldAt}
use Rattle.storage_cache.proofs.Given.{many_given, many_places, all_listed}
use Rattle.storage_cache.proofs.InOrder.{many_order}
use Rattle.storage_cache.proofs.cache.Cache.many.Goals as goal

pub returns-clause-look : goal.returns-clause-look
returns-clause-look c = λ m is agrees.
    many_given c.args.self.now m is agrees c.args.keys.now c.in_ok-pairs.pairs.items
    (subst (AreHeldAt c.args.self.now c.in_ok-pairs.pairs.items)
    (c.range.ensures.listed
    ∙ ap (λ (o : Options). listed o (entries c.in_ok-part.part.places)) c.every.ensures
    ∙ all_listed (entries c.in_ok-part.part.places)
    ∙ c.in_ok-part.ensures.part
    ∙ ap (λ (x : Cached). filter (λ p. is_member bytes_eq c.args.keys.now p.0) (entries x.index.places)) c.self.view_is)
    c.in_ok-pairs.ensures)

pub returns-clause-places : goal.returns-clause-places
returns-clause-places c =
    many_places c.args.self.now c.args.keys.now c.in_ok-pairs.pairs.items
    (subst (AreHeldAt c.args.self.now c.in_ok-pairs.pairs.items)
    (c.range.ensures.listed
    ∙ ap (λ (o : Options). listed o (entries c.in_ok-part.part.places)) c.every.ensures
    ∙ all_listed (entries c.in_ok-part.part.places)
    ∙ c.in_ok-part.ensures.part
    ∙ ap (λ (x : Cached). filter (λ p. is_member bytes_eq c.args.keys.now p.0) (entries x.index.places)) c.self.view_is)
    c.in_ok-pairs.ensures)

pub returns-clause-order : goal.returns-clause-order
returns-clause-order c =
    many_order c.args.self.now c.args.keys.now c.in_ok-pairs.pairs.items
    (subst (AreHeldAt c.args.self.now c.in_ok-pairs.pairs.items)
    (c.range.ensures.listed
    ∙ ap (λ (o : Options). listed o (entries c.in_ok-part.part.places)) c.every.ensures
    ∙ all_listed (entries c.in_ok-part.part.places)
    ∙ c.in_ok-part.ensures.part
    ∙ ap (λ (x : Cached). filter (λ p. is_member bytes_eq c.args.keys.now p.0) (entries x.index.places)) c.self.view_is)
    c.in_ok-pairs.ensures)
