use Rattle.command_words.proofs.WordsCommand as law
use Rattle.command_words.proofs.words.one_command.Goals as goal

pub returns : goal.returns
returns c = law.one_command
