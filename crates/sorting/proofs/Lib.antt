-- Why keys put in one by one are ranked as the definition ranks.
pub mod Ranking
