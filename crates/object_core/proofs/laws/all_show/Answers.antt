use Rattle.std.proofs.Common.{List, subst}
use Rattle.timeline.specs.Logs.{fronted}
use Rattle.timeline.specs.declared.event.Event.{Event}
use Rattle.object_front.specs.Came.{kept}
use Rattle.object_core.proofs.Becoming.{fitting_first}
use Rattle.object_core.proofs.Classless.{has_done_nothing, is_unmoved, says_no_message}
use Rattle.object_core.proofs.Drops.{drops_only}
use Rattle.object_core.proofs.Owing.{is_owed}
use Rattle.object_core.proofs.Telling.{has_told, is_history}
use Rattle.object_core.proofs.Unended.{tells_no_end}
use Rattle.object_core.specs.Dropping.{AreFitting}
use Rattle.object_core.specs.One.{class_in}
use Rattle.object_core.proofs.laws.all_show.Goals as goal

pub returns : goal.returns
returns g c = record {
  history = λ core script origin tells one class is. is_history g.D.Disk.moment_of g.D.Disk.left_since g.D.Disk.told g.D.Disk.image g.D.Disk.faults_of core script origin one c.halves_are_said.ensures tells class is;
  intake = λ core script origin tells one class is.
      let p = one.pair tells class is in
      record { front = p.front; taken = p.taken; unsent = p.unsent; by = p.by };
  got = λ core script origin one. one.has_got;
  class = λ core script origin one. record { classed = one.classed; named = one.named };
  left = λ core script origin one. one.left;
  tells = λ core script origin disk at tells one. has_told g.D.Disk.moment_of g.D.Disk.left_since g.D.Disk.told g.D.Disk.image g.D.Disk.faults_of core script origin one disk at tells;
  owed = λ core script origin tells one. is_owed g.D.Disk.moment_of g.D.Disk.left_since g.D.Disk.told g.D.Disk.image g.D.Disk.faults_of core script origin one c.replies_are_owed.ensures c.passed_is_taken.ensures c.halves_are_said.ensures tells;
  limited = λ core script origin one. one.limited;
  unended = λ core script origin tells one. tells_no_end g.D.Disk.moment_of g.D.Disk.left_since g.D.Disk.told g.D.Disk.image g.D.Disk.faults_of core script origin one c.ends_are_needed.ensures c.unended_pass_as_taken.ensures c.halves_are_said.ensures tells;
  drops = λ core script origin tells one all starts fit.
      let first = class_in script origin.object in
      drops_only core.inbox.got all (fronted core.front.half.log) core.back.log.downs.items (kept one.st) one.has_got.lost starts one.has_got.come
      ((one.drops tells).dropped (fitting_first script first core.inbox.got starts.0 (subst (λ (es : List Event). AreFitting script first es) starts.1 fit)));
  classless = λ core script origin tells one. record {
    unbound = has_done_nothing g.D.Disk.moment_of g.D.Disk.left_since g.D.Disk.told g.D.Disk.image g.D.Disk.faults_of core script origin one tells;
    asks = λ none. says_no_message g.D.Disk.moment_of g.D.Disk.left_since g.D.Disk.told g.D.Disk.image g.D.Disk.faults_of core script origin one tells;
    rests = λ none. is_unmoved g.D.Disk.moment_of g.D.Disk.left_since g.D.Disk.told g.D.Disk.image g.D.Disk.faults_of core script origin one tells none;
  };
}
