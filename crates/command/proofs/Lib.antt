mod AeadLemmas
mod AnswersLemmas
mod BlamesLemmas
mod FilesLemmas
mod KeywrapLemmas
mod LinesLemmas
mod NewFileLemmas
mod ReadingsLemmas
