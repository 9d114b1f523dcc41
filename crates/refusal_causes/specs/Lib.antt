-- the lists of causes
pub mod Causes
-- which cause of its list an answer names
pub mod Places
-- why a message is refused, and from when on it would pass
pub mod Why
-- the sentence of each cause, and the figures that decide it
pub mod Sentences
pub mod Figures
-- what each sentence says, by the rules' tests
pub mod Meanings
-- whether a link alone is why
pub mod Linking
pub mod Listed
-- what is printed
pub mod Printed
-- a row of the sample day
pub mod Worked
