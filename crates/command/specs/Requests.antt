-- The requests that the words after the program's name can make.
use Rattle.std.specs.Prelude.{◌≢◌, ⊤}
use Rattle.command.specs.declared.words.Request.{Request}
use Rattle.command.specs.declared.words.Request.TheVariants.{Print, Write}

-- in a request that writes a file, the paths IN and OUT are different texts
abbrev pub HasTwoPaths : Request → Type 0
HasTwoPaths (Write request) = request.input.now ≢ request.output.now
HasTwoPaths (Print request) = ⊤
