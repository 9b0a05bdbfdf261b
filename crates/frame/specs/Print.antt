-- What the program frame prints (README, "The programs").
use Rattle.std.specs.Prelude.{List, ℕ}
use Rattle.frame_request.specs.Print.{frame_read_text}
use Rattle.frame_request.specs.Request.{frame_request}

-- what is printed of an input
unfoldable pub frame_text : List ℕ → List ℕ
frame_text s = frame_read_text (frame_request s)
