-- The numbers of the answers: document 01, "Questions asked, in this order", and from 6 on the later requests.
use Rattle.std.specs.Prelude.{ℕ, Bool, true, false}
use Rattle.answers.specs.declared.Answer.{Answer}
use Rattle.answers.specs.declared.Answer.TheVariants.{Accepted, InvalidSequenceHeader, InvalidTileInfo}
use Rattle.answers.specs.declared.Answer.TheVariants.{InvalidTrailingBits, WrongArguments, ShortBuffer, TooManyTiles, InvalidFilmGrainData, NoSuchLayout}

-- 0 is accepted, and each refusal has its number
abbrev pub number_of : Answer → ℕ
number_of Accepted = 0
number_of InvalidSequenceHeader = 1
number_of InvalidTileInfo = 2
number_of InvalidTrailingBits = 3
number_of WrongArguments = 4
number_of ShortBuffer = 5
number_of TooManyTiles = 6
number_of InvalidFilmGrainData = 7
number_of NoSuchLayout = 8

-- is it a refusal?
abbrev pub is_refusal : Answer → Bool
is_refusal Accepted = false
is_refusal InvalidSequenceHeader = true
is_refusal InvalidTileInfo = true
is_refusal InvalidTrailingBits = true
is_refusal WrongArguments = true
is_refusal ShortBuffer = true
is_refusal TooManyTiles = true
is_refusal InvalidFilmGrainData = true
is_refusal NoSuchLayout = true
