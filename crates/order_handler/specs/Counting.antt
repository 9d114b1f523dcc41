use Rattle.std.specs.Prelude.{Bool}
use Rattle.venue_rules.specs.declared.replies.Reply.{Reply}
use Rattle.venue_rules.specs.Run.{is_report}

-- an execution report (message 8)
unfoldable pub is_reported : Reply → Bool
is_reported r = is_report r.what
