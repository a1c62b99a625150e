-- The code's steps from line to line, in the words of the grammar, and the judging of one record. No public contract speaks of
-- them: the steps are proved to be the grammar.
pub mod Steps
pub mod Views
pub mod Judging
