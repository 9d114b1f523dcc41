use Rattle.trail_digest.proofs.head.append_json.Goals as goal

pub returns : goal.returns
returns c = rw (c.as_bytes.ensures.value, c.format.ensures.text, c.as_bytes-2.ensures.value, c.in_ok-participants.ensures, c.as_bytes-3.ensures.value, c.in_ok-instruments.ensures, c.as_bytes-4.ensures.value, c.in_ok-digest.ensures) at c.append.ensures
