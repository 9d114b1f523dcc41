-- Borrowed headers and bodies, without their place in memory.
use Rattle.std.specs.Prelude.{option_map}
use Rattle.fix_dictionary.specs.declared.messages.Body.{Body}
use Rattle.fix_dictionary.specs.declared.messages.Body.TheVariants as body
use Rattle.fix_dictionary.specs.declared.messages.BodyRef.{BodyRef}
use Rattle.fix_dictionary.specs.declared.messages.BodyRef.TheVariants as refs
use Rattle.fix_dictionary.specs.declared.messages.Header.{Header}
use Rattle.fix_dictionary.specs.declared.messages.HeaderRef.{HeaderRef}

abbrev pub lent_header : HeaderRef → Header
lent_header m =
    record {
      sender = m.sender.now;
      target = m.target.now;
      number = m.number;
      sending_time = m.sending_time;
      possible_duplicate = m.possible_duplicate;
      possible_resend = m.possible_resend;
      original_sending_time = m.original_sending_time;
      application_version = option_map (λ v. v.now) m.application_version;
    }

abbrev pub lent_body : BodyRef → Body
lent_body (refs.Admin m) = body.Admin m.now
lent_body (refs.App m) = body.App m.now
