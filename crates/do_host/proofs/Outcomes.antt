-- What an answer's form gives.
use Rattle.std.proofs.Common.{◌≡◌, Option, Some, Result, Ok, Err, OnOk, OnErr, sym, subst}
use Rattle.std.specs.Prelude.{IfOk, IfErr, IfSome, IsErrOf}

-- a fact that holds after a good answer, or after a fault, from another one
pub on_ok_map : {T E : Type 0} (result : Result T E) (P Q : Type 0) → (P → Q) → OnOk result P → OnOk result Q
on_ok_map (Ok x) P Q f p = f p
on_ok_map (Err e) P Q f p = tt

pub on_err_map : {T E : Type 0} (result : Result T E) (P Q : Type 0) → (P → Q) → OnErr result P → OnErr result Q
on_err_map (Ok x) P Q f p = tt
on_err_map (Err e) P Q f p = f p

-- a fact of a good answer, from another one
pub if_ok_map : {T E : Type 0} (result : Result T E) (P Q : T → Type 0) → ((x : T) → P x → Q x) → IfOk result P → IfOk result Q
if_ok_map (Ok x) P Q f p = f x p
if_ok_map (Err e) P Q f p = tt

-- a fact that holds after any good answer
pub on_ok : {T E : Type 0} (result : Result T E) (P : Type 0) → P → OnOk result P
on_ok (Ok x) P p = p
on_ok (Err e) P p = tt

-- a good answer is no fault
pub good_is_no_fault : {T E : Type 0} (result : Result T E) (x : T) (e : E) → result ≡ Ok x → IsErrOf result e → ⊥
good_is_no_fault result x e good failed = cc

-- a fact that holds after any fault
pub on_err : {T E : Type 0} (result : Result T E) (P : Type 0) → P → OnErr result P
on_err (Ok x) P p = tt
on_err (Err e) P p = p

-- a fact that holds after the one fault that came
pub if_err : {T E : Type 0} (result : Result T E) (e : E) (P : E → Type 0) → result ≡ Err e → P e → IfErr result P
if_err result e P is p = subst (λ r. IfErr r P) (sym is) p

-- a fact that holds after any fault, and of it
pub on_err_if : {T E : Type 0} (result : Result T E) (Q : Type 0) (P : E → Type 0) → (Q → (e : E) → P e) → OnErr result Q → IfErr result P
on_err_if (Ok x) Q P f q = tt
on_err_if (Err e) Q P f q = f q e

-- a fact of the value that there is
pub if_some : {T : Type 0} (o : Option T) (x : T) (P : T → Type 0) → o ≡ Some x → P x → IfSome o P
if_some o x P is p = subst (λ r. IfSome r P) (sym is) p
