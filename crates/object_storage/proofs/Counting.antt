-- What a disk's count of faults is after an answer.
use Rattle.std.proofs.Common.{◌≡◌, ◌≤◌, ℕ, List, Option, None, refl, sym, ap, ◌∙◌, subst, arith}
use Rattle.std.specs.Prelude.{◌⊎◌, Result, Ok, Err, IsErrOf}
use Rattle.do_disk.specs.Disk.{Rose}
use Rattle.batch_journal.specs.declared.read_stored.ReadFault.{ReadFault}
use Rattle.batch_journal.specs.declared.read_stored.ReadFault.TheVariants as read
use Rattle.object_storage.specs.Steps.{CountsReads}
use Rattle.object_storage.specs.declared.fault.AnswerFault.{AnswerFault}
use Rattle.object_storage.specs.declared.fault.AnswerFault.TheVariants.{ReadFailed, NoMemory}

-- ---- answers that aren't this fault

pub ok_isnt : {T E : Type 0} (x : T) (e : E) → IsErrOf (Ok x) e → ⊥
ok_isnt {T} {E} x e is = let wrong : ◌≡◌ {A = Result T E} (Ok x) (Err e) = is in absurd (cc)

pub bad_isnt : {T : Type 0} (fault : ReadFault) (place : ℕ) → fault ≡ read.BadValue place → IsErrOf {T = T} (Err fault) read.DiskFailed → ⊥
bad_isnt {T} fault place bad is =
    let wrong : ◌≡◌ {A = Result T ReadFault} (Err fault) (Err read.DiskFailed) = is in
    let same : fault ≡ read.DiskFailed = cc in
    let both : read.BadValue place ≡ read.DiskFailed = sym bad ∙ same in
    absurd (cc)

pub none_isnt : {T : Type 0} (fault : ReadFault) → fault ≡ read.NoMemory → IsErrOf {T = T} (Err fault) read.DiskFailed → ⊥
none_isnt {T} fault none is =
    let wrong : ◌≡◌ {A = Result T ReadFault} (Err fault) (Err read.DiskFailed) = is in
    let same : fault ≡ read.DiskFailed = cc in
    let both : read.NoMemory ≡ read.DiskFailed = sym none ∙ same in
    absurd (cc)

-- a fault that a `?` hands on
pub handed : {T U E : Type 0} (r : Result U E) (y e other : E) → r ≡ Err y → y ≡ e → IsErrOf {T = T} (Err e) other → IsErrOf r other
handed {T} {U} {E} r y e other was same is =
    let whole : ◌≡◌ {A = Result T E} (Err e) (Err other) = is in
    let one : e ≡ other = cc in
    was ∙ ap (λ (x : E). Err x) (same ∙ one)

-- ---- the count

module _ {D A : Type 0} (told : D → Option (List ℕ)) (faults_of : D → ℕ) (old new : D) where
  pub counts_ok : (x : A) → faults_of new ≡ faults_of old → CountsReads {A = A} told faults_of old new (Ok x)
  counts_ok x same = record {
    failed = λ before after is. absurd (ok_isnt x (ReadFailed before after) is);
    steady = λ isnt. same;
    later = omega (arith, same);
  }

  pub counts_none : faults_of new ≡ faults_of old → CountsReads {A = A} told faults_of old new (Err NoMemory)
  counts_none same = record {
    failed = λ before after is. let wrong : ◌≡◌ {A = Result A AnswerFault} (Err NoMemory) (Err (ReadFailed before after)) = is in absurd (cc);
    steady = λ isnt. same;
    later = omega (arith, same);
  }

  failed_so : (b : ℕ) → b ≡ faults_of old → Rose (faults_of old) (faults_of new) ⊎ ((faults_of new ≡ faults_of old) × (told old ≡ None)) → faults_of old ≤ faults_of new
      → CountsReads {A = A} told faults_of old new (Err (ReadFailed b (faults_of new)))
  failed_so b at cause later = record {
    failed = λ before after is.
        let both : ◌≡◌ {A = Result A AnswerFault} (Err (ReadFailed b (faults_of new))) (Err (ReadFailed before after)) = is in
        let first : before ≡ b = cc in
        let last : after ≡ faults_of new = cc in (
          first ∙ at,
          last,
          subst (λ (x : ℕ). Rose x after ⊎ ((after ≡ x) × (told old ≡ None))) (sym (first ∙ at))
              (subst (λ (y : ℕ). Rose (faults_of old) y ⊎ ((y ≡ faults_of old) × (told old ≡ None))) (sym last) cause),
        );
    steady = λ isnt. absurd (isnt b (faults_of new) refl);
    later = later;
  }

  pub counts_failed : (b : ℕ) (fault : AnswerFault) → b ≡ faults_of old → fault ≡ ReadFailed b (faults_of new)
      → Rose (faults_of old) (faults_of new) ⊎ ((faults_of new ≡ faults_of old) × (told old ≡ None)) → faults_of old ≤ faults_of new
      → CountsReads {A = A} told faults_of old new (Err fault)
  counts_failed b fault at is cause later = subst (λ (f : AnswerFault). CountsReads {A = A} told faults_of old new (Err f)) (sym is) (failed_so b at cause later)
