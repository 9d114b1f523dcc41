use Rattle.std.specs.Prelude.{ℕ, ◌-◌, ◌^◌, min, List}
use Rattle.std.specs.Vec.{vec_capacity, vec_len}
use Rattle.client_ids.specs.declared.client_id.ClientId.{ClientId}
use Rattle.client_ids.specs.declared.index.IdIndex.TheInside.{Inside}

-- names in order of arrival, and spare capacity
pub record Names : Type 0 where
  pub names : List ClientId
  pub headroom : ℕ

abbrev pub held : Inside → Names
held a = record { names = a.names.items; headroom = min (vec_capacity a.names - vec_len a.names) (min (vec_capacity a.index - vec_len a.index) (2 ^ 32 - vec_len a.names)) }
