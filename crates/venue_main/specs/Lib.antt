-- the exit statuses of the program
pub mod Failures
-- the output for the two files
pub mod Check
-- the output as a served venue closes
pub mod Serve
-- the same of one with a trail
pub mod Recorded
-- the explanation of a log
pub mod Explaining
-- what words on the command line spell
pub mod CommandLine
-- the line below a refusal
pub mod Reasons
