-- Facts about any result.
use Rattle.std.proofs.Common.{Result, Ok, Err, OnOk, IfOk}

pub both_ok : {X E : Type 0} (r : Result X E) (A B D : Type 0) → (A → B → D) → OnOk r A → OnOk r B → OnOk r D
both_ok (Ok x) A B D f a b = f a b
both_ok (Err e) A B D f a b = tt

pub both_if : {X E : Type 0} (r : Result X E) (A : X → Type 0) (B : Type 0) (D : X → Type 0) → ((x : X) → A x → B → D x) → IfOk r A → OnOk r B → IfOk r D
both_if (Ok x) A B D f a b = f x a b
both_if (Err e) A B D f a b = tt

pub so_ok : {X E : Type 0} (r : Result X E) (P Q : Type 0) → (P → Q) → OnOk r P → OnOk r Q
so_ok (Ok x) P Q f p = f p
so_ok (Err e) P Q f p = tt

pub so_if : {X E : Type 0} (r : Result X E) (P Q : X → Type 0) → ((x : X) → P x → Q x) → IfOk r P → IfOk r Q
so_if (Ok x) P Q f p = f x p
so_if (Err e) P Q f p = tt
