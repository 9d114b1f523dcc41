-- The frames sent: of a message sent first, or resent (FIXT 1.1, message recovery).
use Rattle.std.specs.Prelude.{ℕ, List, length, Bool, true, Option, Some, None, decimal}
use Rattle.fix_frame.specs.Frame.{frame}
use Rattle.fix_dictionary.specs.Text.{message_text}
use Rattle.fix_dictionary.specs.declared.messages.Header.{Header}
use Rattle.fix_dictionary.specs.declared.messages.Message.{Message}
use Rattle.sef_client.specs.declared.frames.CompIds.{CompIds}

-- 43=Y where a message is resent
abbrev pub duplicate : Option ℕ → Option Bool
duplicate None = None
duplicate (Some first_sent) = Some true

-- at moment t; a resend has the moment of the first sending (122)
abbrev pub header_of : CompIds → ℕ → ℕ → Option ℕ → Header
header_of ids number t first_sent =
    record {
      sender = ids.own;
      target = ids.peer;
      number = number;
      sending_time = t;
      possible_duplicate = duplicate first_sent;
      possible_resend = None;
      original_sending_time = first_sent;
      application_version = None;
    }

-- the frame of a message
unfoldable pub framed : Message → List ℕ
framed m = frame (decimal (length (message_text m))) (message_text m)
