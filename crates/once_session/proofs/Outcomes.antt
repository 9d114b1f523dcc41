-- Facts about any result.
use Rattle.std.proofs.Common.{Result, Ok, Err, OnOk, IfErr, Option, Some, None, IfSome}
use Rattle.once_session.specs.Outcome.{UnlessOutput}
use Rattle.once_session.specs.declared.fault.OnceFault.{OnceFault}
use Rattle.once_session.specs.declared.fault.OnceFault.TheVariants.{Memory, Input as BadInput, Output}

pub unless_any : (fault : OnceFault) (P : Type 0) → P → UnlessOutput fault P
unless_any Memory P p = p
unless_any BadInput P p = p
unless_any Output P p = tt

pub unless_output : (fault : OnceFault) (P Q : Type 0) → (P → Q) → UnlessOutput fault P → UnlessOutput fault Q
unless_output Memory P Q f p = f p
unless_output BadInput P Q f p = f p
unless_output Output P Q f p = tt

pub on_ok : {X E : Type 0} (r : Result X E) (P : Type 0) → P → OnOk r P
on_ok (Ok x) P p = p
on_ok (Err e) P p = tt

pub if_err : {X E : Type 0} (r : Result X E) (P : E → Type 0) → ((e : E) → P e) → IfErr r P
if_err (Ok x) P p = tt
if_err (Err e) P p = p e

pub so_ok : {X E : Type 0} (r : Result X E) (P Q : Type 0) → (P → Q) → OnOk r P → OnOk r Q
so_ok (Ok x) P Q f p = f p
so_ok (Err e) P Q f p = tt

pub so_err : {X E : Type 0} (r : Result X E) (P Q : E → Type 0) → ((e : E) → P e → Q e) → IfErr r P → IfErr r Q
so_err (Ok x) P Q f p = tt
so_err (Err e) P Q f p = f e p

pub so_some : {X : Type 0} (o : Option X) (P Q : X → Type 0) → ((x : X) → P x → Q x) → IfSome o P → IfSome o Q
so_some None P Q f p = tt
so_some (Some x) P Q f p = f x p

pub all_ok : {X E : Type 0} (r : Result X E) (A B C D : Type 0) → (A → B → C → D) → OnOk r A → OnOk r B → OnOk r C → OnOk r D
all_ok (Ok x) A B C D f a b c = f a b c
all_ok (Err e) A B C D f a b c = tt
