use Rattle.std.specs.Prelude.{option_map}
use Rattle.venue_rules.specs.Messages.{Reason, Status}
use Rattle.report_writer.specs.declared.reason.Reason.{Reason as HeldReason}
use Rattle.report_writer.specs.declared.status.Status.{Status as HeldStatus}

-- a reason, without the address of its text
abbrev pub seen : HeldReason → Reason
seen r = record { code = r.code; text = r.text.now }

abbrev pub seen_status : HeldStatus → Status
seen_status s = record { code = s.code; reason = option_map seen s.reason }
