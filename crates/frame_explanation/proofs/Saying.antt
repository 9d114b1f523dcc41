-- The lines of a fault, and of words.
use Rattle.std.proofs.Common.{◌≡◌, ◌≢◌, [], Option, Some, refl}
use Rattle.fix_decoder.specs.Messages.{IsFault}
use Rattle.fix_dictionary.specs.declared.messages.Body.{Body}
use Rattle.fix_validation.specs.declared.faults.DictFault.{DictFault}
use Rattle.fix_validation.specs.declared.faults.DictFault.TheVariants.{Twice, Count, Missing, Format, Range, NoMemory}
use Rattle.frame_explanation.specs.declared.bodies.Direction.{Direction}
use Rattle.frame_explanation.specs.Bodies.{fault_line, first_fault, sent_words, verdict}

-- a fault that is no allocation failure is the first
is_first : (x : Option DictFault) (fault : DictFault) → IsFault x fault → fault ≢ NoMemory → x ≡ Some fault
is_first x NoMemory h real = absurd (real refl)
is_first x (Twice tag) h real = h
is_first x (Count tag) h real = h
is_first x (Missing tag) h real = h
is_first x (Format tag) h real = h
is_first x (Range tag) h real = h

pub said_fault : (direction : Direction) (x : Option DictFault) (fault : DictFault) (said : Body) → IsFault x fault → fault ≢ NoMemory → fault_line fault ≡ verdict direction x said
said_fault direction x fault said h real = rw (is_first x fault h real) refl

pub no_words_of : (x : Option DictFault) (fault : DictFault) (said : Body) → IsFault x fault → fault ≢ NoMemory → [] ≡ sent_words x said
no_words_of x fault said h real = rw (is_first x fault h real) refl

pub is_fault_line : (x : Option DictFault) (fault : DictFault) → IsFault x fault → fault ≢ NoMemory → fault_line fault ≡ first_fault x
is_fault_line x fault h real = rw (is_first x fault h real) refl
