use Rattle.file_diagnosis.proofs.line.bad_name.Goals as goal

pub returns : goal.returns
returns c = c.format.ensures.ok
