use Rattle.std.proofs.Common.{◌≡◌, true, Result, Ok, Err, OnOk}
use Rattle.std.specs.Result.{is_ok}

-- facts about an Ok

pub given-ok : {X E : Type 0} (P : Type 0) (r : Result X E) → is_ok r ≡ true → OnOk r P → P
given-ok P (Ok x) ok h = h
given-ok P (Err e) ok h = cc
