-- `push_digits`, the one function that calls itself: the measure is the number, of which its tenth part is smaller.
use Rattle.sheet_text.proofs.text.Text.+push_digits.Given as goal

abbrev pub decreases-push_digits : goal.decreases-push_digits
decreases-push_digits l = l.n
