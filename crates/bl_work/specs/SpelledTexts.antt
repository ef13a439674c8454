-- The texts in a line as it is spelled.
use Rattle.bl_work.specs.Grammar.{SpelledLine, hello, wait, when, rule}
use Rattle.bl_work.specs.WhenFaults.{AreContents}

-- each text in a line is a content
abbrev pub HasSpelledContents : SpelledLine → Type 0
HasSpelledContents (hello subject) = Unit {0}
HasSpelledContents wait = Unit {0}
HasSpelledContents (when first more body) = AreContents body
HasSpelledContents (rule asked) = Unit {0}
