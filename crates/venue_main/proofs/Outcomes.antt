-- Facts of a result, in both cases.
use Rattle.std.proofs.Common.{Result, Ok, Err, OnOk}

pub on_ok : {X E : Type 0} (r : Result X E) (P : Type 0) → P → OnOk r P
on_ok (Ok x) P p = p
on_ok (Err e) P p = tt
